-- Demand 2 for the calls themselves, in the words of their contracts. Proved.
use Rattle.std.specs.Prelude.{◌≡◌, false, List, ◌++◌, ℕ, ◌-◌, ◌*◌, ◌≤◌, length, take, drop, Ok}
use Rattle.std.proofs.Common.{ap, sym, ◌∙◌, append_assoc, arith, length-append, length-drop, take_at, length-take-le}
use Rattle.sizes.specs.Sizes.{longest_payload, sheet_room}
use Rattle.bits.specs.Bits.{to_bits}
use Rattle.bits.specs.Laws.{length-to_bits, length-bits_of, bits-to_bits, to_bits-take}
use Rattle.layout.specs.Layout.{accepted, read_l, written, write_l}
use Rattle.layout.specs.Parts.{present}
use Rattle.layout.specs.RoundTrip.{write_read, read-write, write-injective}
use Rattle.sheet.specs.Sheet.{bad_length, bytes_for, fill_for, read_answer, sheet_after, write_answer, out_after}
use Rattle.sheet.specs.Laws.{good-some, some_good, WasRead, was_read, read-has-bit, WasWritten, was-written, reads_so, writes-so}

-- After a successful read, write of the entries read succeeds and gives the payload's bits up to the count read.
pub read-then-write : (kind subtype : ℕ) (payload sheet out : List ℕ) (bits entries : ℕ) → read_answer kind subtype payload sheet ≡ Ok (record { bits = bits; entries = entries })
    → longest_payload ≤ length out
    → (write_answer kind subtype (take entries (sheet_after kind subtype payload sheet)) out ≡ Ok (record { bits = bits; bytes = bytes_for bits }))
    × (take bits (out_after kind subtype (take entries (sheet_after kind subtype payload sheet)) out) ≡ take bits (to_bits payload))
read-then-write kind subtype payload sheet out bits entries e room =
    let w : WasRead kind subtype payload sheet bits entries = was_read kind subtype payload sheet bits entries e in
    let back = write_read w.layout (to_bits payload) w.codes bits (bits-to_bits payload) w.reads in
    let text : List ℕ = take bits (to_bits payload) in
    let size : length text ≡ bits = length-take-le bits (to_bits payload) back.1 in
    let short : bits ≤ 8 * longest_payload = omega (arith, back.1, length-to_bits payload, (good-some (length payload) w.good).1) in
    let good : bad_length (bytes_for bits) ≡ false = some_good (bytes_for bits) (λ z. omega (arith, read-has-bit w)) (omega arith) in
    let read : take entries (sheet_after kind subtype payload sheet) ≡ w.codes
    = ap (take entries) w.leaves ∙ take_at w.codes (drop (length w.codes) sheet) entries (sym w.count) in
    let so = writes-so kind subtype w.codes out w.layout text w.here back.0 room (ap (λ (x : ℕ). bad_length (bytes_for x)) size ∙ good) in (
      ap (λ x. write_answer kind subtype x out) read ∙ so.0 ∙ ap (λ (x : ℕ). Ok (record { bits = x; bytes = bytes_for x })) size,
      ap (λ x. take bits (out_after kind subtype x out)) read ∙ ap (take bits) so.1
          ∙ take_at text (fill_for (length text) ++ drop (8 * bytes_for (length text)) (to_bits out)) bits size,
    )

-- the bytes written say the message's bits and the fill
written-bytes : (kind subtype : ℕ) (sheet out out' : List ℕ) (bits bytes : ℕ) (w : WasWritten kind subtype sheet out bits bytes)
    → to_bits out' ≡ out_after kind subtype sheet out → (length (take bytes out') ≡ bytes) × (to_bits (take bytes out') ≡ w.text ++ fill_for (length w.text))
written-bytes kind subtype sheet out out' bits bytes w e =
    let text : List ℕ = w.text in
    let n : ℕ = length text in
    let fill : List ℕ = fill_for n in
    let rest : List ℕ = drop (8 * bytes_for n) (to_bits out) in
    let a : to_bits out' ≡ text ++ (fill ++ rest) = e ∙ w.leaves in
    let few : bytes ≤ longest_payload = (good-some bytes w.good).1 in
    let f : length fill ≡ 8 * bytes_for n - n = length-bits_of (8 * bytes_for n - n) 0 in
    let whole : length (text ++ fill) ≡ 8 * bytes = omega (arith, length-append text fill, w.round) in
    let i : bytes ≤ length out'
    = omega (arith, length-to_bits out', ap length a, length-append text (fill ++ rest), length-append fill rest, length-drop (8 * bytes_for n) (to_bits out), length-to_bits out, w.round, w.room) in
    (length-take-le bytes out' i, to_bits-take bytes out' i ∙ ap (take (8 * bytes)) (a ∙ sym (append_assoc text fill rest)) ∙ take_at (text ++ fill) rest (8 * bytes) whole)

-- After a successful write, read of the bytes written gives the sheet, and as many bits.
pub write-then-read : (kind subtype : ℕ) (sheet out out' back : List ℕ) (bits bytes : ℕ) → write_answer kind subtype sheet out ≡ Ok (record { bits = bits; bytes = bytes })
    → to_bits out' ≡ out_after kind subtype sheet out → sheet_room ≤ length back
    → (read_answer kind subtype (take bytes out') back ≡ Ok (record { bits = bits; entries = length sheet }))
    × (sheet_after kind subtype (take bytes out') back ≡ sheet ++ drop (length sheet) back)
write-then-read kind subtype sheet out out' back bits bytes e o room =
    let w : WasWritten kind subtype sheet out bits bytes = was-written kind subtype sheet out bits bytes e in
    let b = written-bytes kind subtype sheet out out' bits bytes w o in
    let r = read-write w.layout sheet w.text w.writes in
    let reads : read_l w.layout (to_bits (take bytes out')) ≡ accepted r.0 sheet (length w.text)
    = ap (read_l w.layout) b.1 ∙ r.1 (fill_for (length w.text)) in
    let so = reads_so kind subtype (take bytes out') back w.layout r.0 sheet (length w.text) w.here reads room (ap bad_length b.0 ∙ w.good) in
    (so.0 ∙ ap (λ (x : ℕ). Ok (record { bits = x; entries = length sheet })) (sym w.count), so.1)

-- Two sheets that write the same bytes and as many bits are the same.
pub written_known : (kind subtype : ℕ) (sheet₁ sheet₂ out₁ out₂ out₁' out₂' : List ℕ) (bits bytes : ℕ)
    → write_answer kind subtype sheet₁ out₁ ≡ Ok (record { bits = bits; bytes = bytes }) → to_bits out₁' ≡ out_after kind subtype sheet₁ out₁
    → write_answer kind subtype sheet₂ out₂ ≡ Ok (record { bits = bits; bytes = bytes }) → to_bits out₂' ≡ out_after kind subtype sheet₂ out₂
    → take bytes out₁' ≡ take bytes out₂' → sheet₁ ≡ sheet₂
written_known kind subtype sheet₁ sheet₂ out₁ out₂ out₁' out₂' bits bytes e₁ o₁ e₂ o₂ same =
    let w₁ : WasWritten kind subtype sheet₁ out₁ bits bytes = was-written kind subtype sheet₁ out₁ bits bytes e₁ in
    let w₂ : WasWritten kind subtype sheet₂ out₂ bits bytes = was-written kind subtype sheet₂ out₂ bits bytes e₂ in
    let b₁ = (written-bytes kind subtype sheet₁ out₁ out₁' bits bytes w₁ o₁).1 in
    let b₂ = (written-bytes kind subtype sheet₂ out₂ out₂' bits bytes w₂ o₂).1 in
    let text : w₁.text ≡ w₂.text
    = sym (take_at w₁.text (fill_for (length w₁.text)) bits (sym w₁.count)) ∙ ap (take bits) (sym b₁ ∙ ap to_bits same ∙ b₂)
    ∙ take_at w₂.text (fill_for (length w₂.text)) bits (sym w₂.count) in
    let layouts : present w₁.layout ≡ present w₂.layout = sym w₁.here ∙ w₂.here in
    let layout : w₂.layout ≡ w₁.layout = cc in
    write-injective w₁.layout sheet₁ sheet₂ w₁.text w₁.writes (ap (λ l. write_l l sheet₂) (sym layout) ∙ w₂.writes ∙ ap written (sym text))
