-- Theorems, in the words of the contracts (document 02, request 2): which refusals of `read`, `judge`, `write` and `judge_sheet` have a place, and what it is. Proved.
use Rattle.std.specs.Prelude.{◌≡◌, refl, Bool, true, false, List, ℕ, ◌*◌, ◌^◌, ◌≤◌, ◌<◌, ltb, length, Err}
use Rattle.std.proofs.Math.Path.{ap}
use Rattle.std.proofs.Common.{sym, ◌∙◌, arith, length-append}
use Rattle.sizes.specs.Sizes.{longest_payload, sheet_room}
use Rattle.answer.specs.Place.{nowhere, sf_in, at_in}
use Rattle.answer.specs.Stop.{stop}
use Rattle.answer.specs.declared.Refusal.TheVariants as refusal
use Rattle.answer.specs.declared.Refusal.{Refusal}
use Rattle.answer.specs.declared.Fault as answer
use Rattle.bits.specs.Bits.{to_bits}
use Rattle.bits.specs.Laws.{length-to_bits, bits-to_bits}
use Rattle.layout.specs.Layout.{Layout, Outcome, accepted, refused, Written, written, unwritten, write_l}
use Rattle.layout.specs.Parts.{Part, absent, present}
use Rattle.layout.specs.Places.{ReadStop, refused-there, stops-refused, WriteStop, entry, leftover, unwritten-there, stops-unwritten}
use Rattle.layout.specs.Placed.{Placed, read-placed, SheetFault, placed, over, write-placed, short-bits, short-sheet}
use Rattle.message.specs.Messages.{Message, layout_for}
use Rattle.sheet.specs.Sheet.{bad_length, bytes_for, judging, reading, read_answer_by, judged, read_answer, then_length, judging_sheet, writing, write_answer_by, judged_sheet, write_answer}
use Rattle.sheet.specs.Laws.{good-some, judging_with, judging-with, judging_sheet_with, judging-sheet-with}
use Rattle.sheet.specs.Acceptance.{walked}

-- ---- payloads

-- A refusal of a payload: UNKNOWN_TYPE and LENGTH, which have no place; or SHORT, FIELD or MASK_EMPTY at the field of its layout where the bits stop.
pub data PayloadFault (kind subtype : ℕ) (payload : List ℕ) (why : answer.Fault) : Type 0 where
  no-layout : layout_for kind subtype ≡ absent → why ≡ nowhere refusal.UnknownType → PayloadFault kind subtype payload why
  no_length : bad_length (length payload) ≡ true → why ≡ nowhere refusal.Length → PayloadFault kind subtype payload why
  at_field : (l : Layout Message) → layout_for kind subtype ≡ present l → bad_length (length payload) ≡ false → Placed why → ReadStop l (to_bits payload) why
      → PayloadFault kind subtype payload why

refused-by : (o : Outcome Message) (why : answer.Fault) → read_answer_by o ≡ Err why → o ≡ refused why
refused-by (accepted v cs n) why e = let z : ◌≡◌ {A = ℕ} 0 1 = cc in absurd (omega arith)
refused-by (refused why') why e = let z : why' ≡ why = cc in ap refused z

module _ (kind subtype : ℕ) (payload : List ℕ) where
  pub judging-faults : (why : answer.Fault) → judging kind subtype payload ≡ refused why → PayloadFault kind subtype payload why
  judging-faults why e = go (layout_for kind subtype) (bad_length (length payload)) refl refl
    where
      by : (p : Part (Layout Message)) (b : Bool) → layout_for kind subtype ≡ p → bad_length (length payload) ≡ b → judging_with payload p b ≡ refused why
          → PayloadFault kind subtype payload why
      by absent b q r e = no-layout q (let z : nowhere refusal.UnknownType ≡ why = cc in sym z)
      by (present l) true q r e = no_length r (let z : nowhere refusal.Length ≡ why = cc in sym z)
      by (present l) false q r e =
          at_field l q r (read-placed (walked kind subtype l q).walks (to_bits payload) why e) (refused-there l (to_bits payload) why (bits-to_bits payload) e)

      go : (p : Part (Layout Message)) (b : Bool) → layout_for kind subtype ≡ p → bad_length (length payload) ≡ b → PayloadFault kind subtype payload why
      go p b q r = by p b q r (sym (judging-with kind subtype payload q r) ∙ e)

  -- What `judge` refuses is refused so ..
  pub judged-faults : (why : answer.Fault) → judged kind subtype payload ≡ Err why → PayloadFault kind subtype payload why
  unfolding judged
  judged-faults why e = judging-faults why (refused-by (judging kind subtype payload) why e)

  -- .. and a payload of a good length whose bits stop so is refused so.
  pub stops-judged : (l : Layout Message) (why : answer.Fault) → layout_for kind subtype ≡ present l → bad_length (length payload) ≡ false → ReadStop l (to_bits payload) why
      → judged kind subtype payload ≡ Err why
  unfolding judged
  stops-judged l why q g s = ap read_answer_by (judging-with kind subtype payload q g ∙ stops-refused l (to_bits payload) why s)

  -- SHORT: from the place on the payload has too few bits for the field there.
  pub short-payload : (l : Layout Message) (why : answer.Fault) → layout_for kind subtype ≡ present l → (s : ReadStop l (to_bits payload) why) → why.refusal ≡ refusal.Short
      → length s.rest < s.here.width
  short-payload l why q s e = short-bits (walked kind subtype l q).walks (to_bits payload) why s e

  -- The bit lies within the payload, or right behind it.
  pub bit-inside : (l : Layout Message) (why : answer.Fault) (s : ReadStop l (to_bits payload) why) → length s.said ≤ 8 * length payload
  bit-inside l why s = omega (arith, ap length s.begins, length-append s.said s.rest, length-to_bits payload)

-- `read` refuses as `judge` does, or by ROOM, which has no place.
pub data ReadFault (kind subtype : ℕ) (payload sheet : List ℕ) (why : answer.Fault) : Type 0 where
  no_room : ltb (length sheet) sheet_room ≡ true → why ≡ nowhere refusal.Room → ReadFault kind subtype payload sheet why
  payload-fault : ltb (length sheet) sheet_room ≡ false → PayloadFault kind subtype payload why → ReadFault kind subtype payload sheet why

pub read-faults : (kind subtype : ℕ) (payload sheet : List ℕ) (why : answer.Fault) → read_answer kind subtype payload sheet ≡ Err why → ReadFault kind subtype payload sheet why
unfolding read_answer reading
read-faults kind subtype payload sheet why e = go (ltb (length sheet) sheet_room) refl e
  where
    go : (b : Bool) → ltb (length sheet) sheet_room ≡ b → read_answer_by (stop b (refused (nowhere refusal.Room)) (judging kind subtype payload)) ≡ Err why → ReadFault kind subtype payload sheet why
    go true h e = no_room h (let z : nowhere refusal.Room ≡ why = cc in sym z)
    go false h e = payload-fault h (judging-faults kind subtype payload why (refused-by (judging kind subtype payload) why e))

-- ---- sheets

-- A refusal of a sheet: UNKNOWN_TYPE and LENGTH, which have no place; or by its layout, where the sheet stops: SHORT, FIELD or MASK_EMPTY with a place, or LEFTOVER without one.
pub data EntryFault (kind subtype : ℕ) (sheet : List ℕ) (why : answer.Fault) : Type 0 where
  no-layout : layout_for kind subtype ≡ absent → why ≡ nowhere refusal.UnknownType → EntryFault kind subtype sheet why
  no_length : (l : Layout Message) (bits : List ℕ) → layout_for kind subtype ≡ present l → write_l l sheet ≡ written bits → bad_length (bytes_for (length bits)) ≡ true
      → why ≡ nowhere refusal.Length → EntryFault kind subtype sheet why
  by_layout : (l : Layout Message) → layout_for kind subtype ≡ present l → SheetFault why → WriteStop l sheet why → EntryFault kind subtype sheet why

unwritten-by : (o : Written) (why : answer.Fault) → write_answer_by o ≡ Err why → o ≡ unwritten why
unwritten-by (written bits) why e = let z : ◌≡◌ {A = ℕ} 0 1 = cc in absurd (omega arith)
unwritten-by (unwritten why') why e = let z : why' ≡ why = cc in ap unwritten z

module _ (kind subtype : ℕ) (sheet : List ℕ) where
  pub judging-sheet-faults : (why : answer.Fault) → judging_sheet kind subtype sheet ≡ unwritten why → EntryFault kind subtype sheet why
  judging-sheet-faults why e = go (layout_for kind subtype) refl
    where
      last : (l : Layout Message) → layout_for kind subtype ≡ present l → (o : Written) → write_l l sheet ≡ o → (b : Bool)
          → ((bits : List ℕ) → o ≡ written bits → bad_length (bytes_for (length bits)) ≡ b) → then_length o ≡ unwritten why → EntryFault kind subtype sheet why
      last l q (unwritten first) w b k e =
          let z : first ≡ why = cc in
          let w' : write_l l sheet ≡ unwritten why = w ∙ ap unwritten z in
          by_layout l q (write-placed (walked kind subtype l q).walks sheet why w') (unwritten-there l sheet why w')
      last l q (written bits) w true k e =
          let e' : unwritten (nowhere refusal.Length) ≡ unwritten why
          = ap (λ x. stop x (unwritten (nowhere refusal.Length)) (written bits)) (sym (k bits refl)) ∙ e in
          no_length l bits q w (k bits refl) (let z : nowhere refusal.Length ≡ why = cc in sym z)
      last l q (written bits) w false k e =
          let e' : written bits ≡ unwritten why = ap (λ x. stop x (unwritten (nowhere refusal.Length)) (written bits)) (sym (k bits refl)) ∙ e in
          let z : ◌≡◌ {A = ℕ} 0 1 = cc in absurd (omega arith)

      bad_of : Written → Bool
      bad_of (written bits) = bad_length (bytes_for (length bits))
      bad_of (unwritten why) = false

      by : (p : Part (Layout Message)) → layout_for kind subtype ≡ p → judging_sheet_with sheet p ≡ unwritten why → EntryFault kind subtype sheet why
      by absent q e = no-layout q (let z : nowhere refusal.UnknownType ≡ why = cc in sym z)
      by (present l) q e = last l q (write_l l sheet) refl (bad_of (write_l l sheet)) (λ bits h. ap bad_of (sym h)) e

      go : (p : Part (Layout Message)) → layout_for kind subtype ≡ p → EntryFault kind subtype sheet why
      go p q = by p q (sym (judging-sheet-with kind subtype sheet q) ∙ e)

  -- What `judge_sheet` refuses is refused so ..
  pub judged-sheet-faults : (why : answer.Fault) → judged_sheet kind subtype sheet ≡ Err why → EntryFault kind subtype sheet why
  unfolding judged_sheet
  judged-sheet-faults why e = judging-sheet-faults why (unwritten-by (judging_sheet kind subtype sheet) why e)

  -- .. and a sheet that stops so is refused so.
  pub stops-judged-sheet : (l : Layout Message) (why : answer.Fault) → layout_for kind subtype ≡ present l → WriteStop l sheet why → judged_sheet kind subtype sheet ≡ Err why
  unfolding judged_sheet
  stops-judged-sheet l why q s = ap write_answer_by (judging-sheet-with kind subtype sheet q ∙ ap then_length (stops-unwritten l sheet why s))

-- SHORT is at the sheet's length.
pub short-entry : (kind subtype : ℕ) (sheet : List ℕ) (l : Layout Message) (why : answer.Fault) → layout_for kind subtype ≡ present l → WriteStop l sheet why → why.refusal ≡ refusal.Short
    → at_in why.place ≡ length sheet
short-entry kind subtype sheet l why q s e = short-sheet (walked kind subtype l q).walks sheet why s e

-- ---- a field's number has 24 bits; a place is at most as far as the longest payload has bits, or the sheet entries

pub record Within (most : ℕ) (why : answer.Fault) : Type 0 where
  pub sf : sf_in why.place < 2 ^ 24
  pub at : at_in why.place ≤ most

without : (most : ℕ) (why : answer.Fault) (r : Refusal) → why ≡ nowhere r → Within most why
without most why r e =
    record { sf = omega (arith, ap (λ (x : answer.Fault). sf_in x.place) e); at = omega (arith, ap (λ (x : answer.Fault). at_in x.place) e) }

pub payload-within : {kind subtype : ℕ} {payload : List ℕ} {why : answer.Fault} → PayloadFault kind subtype payload why → Within (8 * longest_payload) why
payload-within {why = why} (no-layout q e) = without (8 * longest_payload) why refusal.UnknownType e
payload-within {why = why} (no_length q e) = without (8 * longest_payload) why refusal.Length e
payload-within {kind} {subtype} {payload} {why} (at_field l q g p s) =
    record {
      sf = omega (arith, ap sf_in p.place, p.number.small);
      at = omega (arith, ap at_in s.place, bit-inside kind subtype payload l why s, (good-some (length payload) g).1);
    }

stop-within : {l : Layout Message} (sheet : List ℕ) (why : answer.Fault) → Placed why → WriteStop l sheet why → Within (length sheet) why
stop-within sheet why p (entry here next codes said rest first begins cause place) =
    record { sf = omega (arith, ap sf_in p.place, p.number.small); at = omega (arith, ap at_in place, ap length begins, length-append codes rest) }
stop-within sheet why p (leftover v codes said c rest first begins e) = without (length sheet) why refusal.Leftover e

pub entry-within : {kind subtype : ℕ} {sheet : List ℕ} {why : answer.Fault} → EntryFault kind subtype sheet why → Within (length sheet) why
entry-within {sheet = sheet} {why} (no-layout q e) = without (length sheet) why refusal.UnknownType e
entry-within {sheet = sheet} {why} (no_length l bits q w b e) = without (length sheet) why refusal.Length e
entry-within {sheet = sheet} {why} (by_layout l q (placed p) s) = stop-within sheet why p s
entry-within {sheet = sheet} {why} (by_layout l q (over e) s) = without (length sheet) why refusal.Leftover e

-- `write` refuses as `judge_sheet` does, or by ROOM, which has no place.
pub data WriteFault (kind subtype : ℕ) (sheet out : List ℕ) (why : answer.Fault) : Type 0 where
  no_room : ltb (length out) longest_payload ≡ true → why ≡ nowhere refusal.Room → WriteFault kind subtype sheet out why
  entry-fault : ltb (length out) longest_payload ≡ false → EntryFault kind subtype sheet why → WriteFault kind subtype sheet out why

pub write-faults : (kind subtype : ℕ) (sheet out : List ℕ) (why : answer.Fault) → write_answer kind subtype sheet out ≡ Err why → WriteFault kind subtype sheet out why
unfolding write_answer writing
write-faults kind subtype sheet out why e = go (ltb (length out) longest_payload) refl e
  where
    go : (b : Bool) → ltb (length out) longest_payload ≡ b → write_answer_by (stop b (unwritten (nowhere refusal.Room)) (judging_sheet kind subtype sheet)) ≡ Err why → WriteFault kind subtype sheet out why
    go true h e = no_room h (let z : nowhere refusal.Room ≡ why = cc in sym z)
    go false h e = entry-fault h (judging-sheet-faults kind subtype sheet why (unwritten-by (judging_sheet kind subtype sheet) why e))
