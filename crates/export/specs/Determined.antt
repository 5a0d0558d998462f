-- Two results of a public call of this crate cannot differ: for equal inputs, answers and lent buffers that meet the contract are equal. Proved.
-- Written by tests/determined from the contracts in src/.
use Rattle.std.specs.Prelude.{◌-◌, ℕ, Float, get_or, List, ◌≡◌}
use Rattle.answer.specs.declared.Fault.{Fault}
use Rattle.bits.specs.Bits.{Bytes, to_bits}
use Rattle.bits.specs.Laws.{to_bits-injective}
use Rattle.book.specs.declared.Book.{Book}
use Rattle.export.specs.Books as export-books
use Rattle.export.specs.Books.{book_in, book_of, book_room, kept_leaves, kept_of, read_leaves, read_of, take_leaves, take_of, told_kept, told_taken}
use Rattle.export.specs.Frames as export-frames
use Rattle.export.specs.Frames.{header_of, header_room, parts_of, told_checked}
use Rattle.export.specs.Meanings.{floats_of_orbit, floats_of_value, orbit_room, told_orbit, told_value, unit_room, value_room}
use Rattle.export.specs.Numbers.{answer_of, answered, laid, lent_after, room, room_for, stored}
use Rattle.export.specs.Payloads as export-payloads
use Rattle.export.specs.Payloads.{counts_room}
use Rattle.export.specs.Streams.{call_leaves, call_of, finish_leaves, finish_of, header_told, rooms, told_answer, tray_in, tray_of, tray_told}
use Rattle.frame.specs.Check.{checked}
use Rattle.frame.specs.Write as frame-write
use Rattle.frame.specs.Write.{written}
use Rattle.frame.specs.declared.Frame.{Frame}
use Rattle.sheet.specs.Sheet as sheet-sheet
use Rattle.sheet.specs.Sheet.{judged, judged_sheet, read_answer, sheet_after, write_answer}
use Rattle.stream.specs.declared.Tray.{Tray}
use Rattle.values.specs.Values.{orbit_of, value_of}
use Rattle.std.proofs.Common.{◌∙◌, sym}

pub aiou-of-determined : (x : ℕ) (r₁ r₂ : ℕ)
    → r₁ ≡ x - 1
    → r₂ ≡ x - 1
    → r₁ ≡ r₂
aiou-of-determined x r₁ r₂ e0₁ e0₂ = e0₁ ∙ sym e0₂

pub siou-of-determined : (x : ℕ) (r₁ r₂ : ℕ)
    → r₁ ≡ x
    → r₂ ≡ x
    → r₁ ≡ r₂
siou-of-determined x r₁ r₂ e0₁ e0₂ = e0₁ ∙ sym e0₂

pub book-in-determined : (book : List ℕ) (r₁ r₂ : Book)
    → r₁ ≡ book_in book
    → r₂ ≡ book_in book
    → r₁ ≡ r₂
book-in-determined book r₁ r₂ e0₁ e0₂ = e0₁ ∙ sym e0₂

pub put-book-determined : (held : Book) (book : List ℕ) (book₁ book₂ : List ℕ)
    → book₁ ≡ stored (book_of held) book
    → book₂ ≡ stored (book_of held) book
    → book₁ ≡ book₂
put-book-determined held book book₁ book₂ e0₁ e0₂ = e0₁ ∙ sym e0₂

pub book-take-determined : (book bytes payload : List ℕ) (r₁ r₂ : ℕ) (book₁ book₂ : List ℕ) (bytes₁ bytes₂ : List ℕ)
    → r₁ ≡ answered book_room book (told_taken (take_of book bytes payload))
    → r₂ ≡ answered book_room book (told_taken (take_of book bytes payload))
    → book₁ ≡ lent_after book_room book (told_taken (take_of book bytes payload))
    → book₂ ≡ lent_after book_room book (told_taken (take_of book bytes payload))
    → bytes₁ ≡ room_for book_room book bytes (take_leaves book bytes payload)
    → bytes₂ ≡ room_for book_room book bytes (take_leaves book bytes payload)
    → (r₁ ≡ r₂) × (book₁ ≡ book₂) × (bytes₁ ≡ bytes₂)
book-take-determined book bytes payload r₁ r₂ book₁ book₂ bytes₁ bytes₂ e0₁ e0₂ e1₁ e1₂ e2₁ e2₂ = (e0₁ ∙ sym e0₂, e1₁ ∙ sym e1₂, e2₁ ∙ sym e2₂)

pub kept-read-determined : (kept book bytes : List ℕ) (r₁ r₂ : ℕ) (book₁ book₂ : List ℕ) (bytes₁ bytes₂ : List ℕ)
    → r₁ ≡ answered book_room book (export-books.told_read (read_of kept bytes))
    → r₂ ≡ answered book_room book (export-books.told_read (read_of kept bytes))
    → book₁ ≡ lent_after book_room book (export-books.told_read (read_of kept bytes))
    → book₂ ≡ lent_after book_room book (export-books.told_read (read_of kept bytes))
    → bytes₁ ≡ room_for book_room book bytes (read_leaves kept bytes)
    → bytes₂ ≡ room_for book_room book bytes (read_leaves kept bytes)
    → (r₁ ≡ r₂) × (book₁ ≡ book₂) × (bytes₁ ≡ bytes₂)
kept-read-determined kept book bytes r₁ r₂ book₁ book₂ bytes₁ bytes₂ e0₁ e0₂ e1₁ e1₂ e2₁ e2₂ = (e0₁ ∙ sym e0₂, e1₁ ∙ sym e1₂, e2₁ ∙ sym e2₂)

pub kept-write-determined : (book bytes out written : List ℕ) (r₁ r₂ : ℕ) (out₁ out₂ : List ℕ) (written₁ written₂ : List ℕ)
    → r₁ ≡ room_for book_room book 9 (answered 1 written (told_kept (kept_of book bytes out)))
    → r₂ ≡ room_for book_room book 9 (answered 1 written (told_kept (kept_of book bytes out)))
    → out₁ ≡ room_for book_room book out (room_for 1 written out (kept_leaves book bytes out))
    → out₂ ≡ room_for book_room book out (room_for 1 written out (kept_leaves book bytes out))
    → written₁ ≡ room_for book_room book written (lent_after 1 written (told_kept (kept_of book bytes out)))
    → written₂ ≡ room_for book_room book written (lent_after 1 written (told_kept (kept_of book bytes out)))
    → (r₁ ≡ r₂) × (out₁ ≡ out₂) × (written₁ ≡ written₂)
kept-write-determined book bytes out written r₁ r₂ out₁ out₂ written₁ written₂ e0₁ e0₂ e1₁ e1₂ e2₁ e2₂ = (e0₁ ∙ sym e0₂, e1₁ ∙ sym e1₂, e2₁ ∙ sym e2₂)

pub put-header-determined : (frame : Frame) (header : List ℕ) (header₁ header₂ : List ℕ)
    → header₁ ≡ stored (header_of frame) header
    → header₂ ≡ stored (header_of frame) header
    → header₁ ≡ header₂
put-header-determined frame header header₁ header₂ e0₁ e0₂ = e0₁ ∙ sym e0₂

pub frame-check-determined : (bytes header : List ℕ) (r₁ r₂ : ℕ) (header₁ header₂ : List ℕ)
    → r₁ ≡ answered header_room header (told_checked (checked bytes))
    → r₂ ≡ answered header_room header (told_checked (checked bytes))
    → header₁ ≡ lent_after header_room header (told_checked (checked bytes))
    → header₂ ≡ lent_after header_room header (told_checked (checked bytes))
    → (r₁ ≡ r₂) × (header₁ ≡ header₂)
frame-check-determined bytes header r₁ r₂ header₁ header₂ e0₁ e0₂ e1₁ e1₂ = (e0₁ ∙ sym e0₂, e1₁ ∙ sym e1₂)

pub frame-write-determined : (message_type check_type subtype tag_kind tag solution processor : ℕ) (payload out size : List ℕ) (r₁ r₂ : ℕ) (out₁ out₂ : List ℕ) (size₁ size₂ : List ℕ)
    → r₁ ≡ answered 1 size (export-frames.told_written (written (parts_of message_type check_type subtype tag_kind tag solution processor) payload out))
    → r₂ ≡ answered 1 size (export-frames.told_written (written (parts_of message_type check_type subtype tag_kind tag solution processor) payload out))
    → out₁ ≡ room_for 1 size out (frame-write.out_after (parts_of message_type check_type subtype tag_kind tag solution processor) payload out)
    → out₂ ≡ room_for 1 size out (frame-write.out_after (parts_of message_type check_type subtype tag_kind tag solution processor) payload out)
    → size₁ ≡ lent_after 1 size (export-frames.told_written (written (parts_of message_type check_type subtype tag_kind tag solution processor) payload out))
    → size₂ ≡ lent_after 1 size (export-frames.told_written (written (parts_of message_type check_type subtype tag_kind tag solution processor) payload out))
    → (r₁ ≡ r₂) × (out₁ ≡ out₂) × (size₁ ≡ size₂)
frame-write-determined message_type check_type subtype tag_kind tag solution processor payload out size r₁ r₂ out₁ out₂ size₁ size₂ e0₁ e0₂ e1₁ e1₂ e2₁ e2₂ = (e0₁ ∙ sym e0₂, e1₁ ∙ sym e1₂, e2₁ ∙ sym e2₂)

pub value-determined : (sf code : ℕ) (what : List ℕ) (value : List Float) (r₁ r₂ : ℕ) (what₁ what₂ : List ℕ) (value₁ value₂ : List Float)
    → r₁ ≡ room_for unit_room what room (room_for value_room value room (told_value (value_of sf code)).number)
    → r₂ ≡ room_for unit_room what room (room_for value_room value room (told_value (value_of sf code)).number)
    → what₁ ≡ room_for unit_room what what (room_for value_room value what (laid (told_value (value_of sf code)).numbers what))
    → what₂ ≡ room_for unit_room what what (room_for value_room value what (laid (told_value (value_of sf code)).numbers what))
    → value₁ ≡ room_for unit_room what value (room_for value_room value value (floats_of_value (value_of sf code) value))
    → value₂ ≡ room_for unit_room what value (room_for value_room value value (floats_of_value (value_of sf code) value))
    → (r₁ ≡ r₂) × (what₁ ≡ what₂) × (value₁ ≡ value₂)
value-determined sf code what value r₁ r₂ what₁ what₂ value₁ value₂ e0₁ e0₂ e1₁ e1₂ e2₁ e2₂ = (e0₁ ∙ sym e0₂, e1₁ ∙ sym e1₂, e2₁ ∙ sym e2₂)

pub orbit-determined : (radial along_track cross_track : ℕ) (orbit : List Float) (r₁ r₂ : ℕ) (orbit₁ orbit₂ : List Float)
    → r₁ ≡ room_for orbit_room orbit room (told_orbit (orbit_of radial along_track cross_track))
    → r₂ ≡ room_for orbit_room orbit room (told_orbit (orbit_of radial along_track cross_track))
    → orbit₁ ≡ room_for orbit_room orbit orbit (floats_of_orbit (orbit_of radial along_track cross_track) orbit)
    → orbit₂ ≡ room_for orbit_room orbit orbit (floats_of_orbit (orbit_of radial along_track cross_track) orbit)
    → (r₁ ≡ r₂) × (orbit₁ ≡ orbit₂)
orbit-determined radial along_track cross_track orbit r₁ r₂ orbit₁ orbit₂ e0₁ e0₂ e1₁ e1₂ = (e0₁ ∙ sym e0₂, e1₁ ∙ sym e1₂)

pub wide-determined : (x : ℕ) (r₁ r₂ : ℕ)
    → r₁ ≡ x
    → r₂ ≡ x
    → r₁ ≡ r₂
wide-determined x r₁ r₂ e0₁ e0₂ = e0₁ ∙ sym e0₂

pub count-determined : (n : ℕ) (r₁ r₂ : ℕ)
    → r₁ ≡ n
    → r₂ ≡ n
    → r₁ ≡ r₂
count-determined n r₁ r₂ e0₁ e0₂ = e0₁ ∙ sym e0₂

pub answer-of-determined : (fault : Fault) (r₁ r₂ : ℕ)
    → r₁ ≡ answer_of fault
    → r₂ ≡ answer_of fault
    → r₁ ≡ r₂
answer-of-determined fault r₁ r₂ e0₁ e0₂ = e0₁ ∙ sym e0₂

pub at-determined : (numbers : List ℕ) (place : ℕ) (r₁ r₂ : ℕ)
    → r₁ ≡ get_or numbers place 0
    → r₂ ≡ get_or numbers place 0
    → r₁ ≡ r₂
at-determined numbers place r₁ r₂ e0₁ e0₂ = e0₁ ∙ sym e0₂

pub put-determined : (numbers out : List ℕ) (out₁ out₂ : List ℕ)
    → out₁ ≡ stored numbers out
    → out₂ ≡ stored numbers out
    → out₁ ≡ out₂
put-determined numbers out out₁ out₂ e0₁ e0₂ = e0₁ ∙ sym e0₂

pub payload-judge-determined : (kind subtype : ℕ) (payload counts : List ℕ) (r₁ r₂ : ℕ) (counts₁ counts₂ : List ℕ)
    → r₁ ≡ answered counts_room counts (export-payloads.told_read (judged kind subtype payload))
    → r₂ ≡ answered counts_room counts (export-payloads.told_read (judged kind subtype payload))
    → counts₁ ≡ lent_after counts_room counts (export-payloads.told_read (judged kind subtype payload))
    → counts₂ ≡ lent_after counts_room counts (export-payloads.told_read (judged kind subtype payload))
    → (r₁ ≡ r₂) × (counts₁ ≡ counts₂)
payload-judge-determined kind subtype payload counts r₁ r₂ counts₁ counts₂ e0₁ e0₂ e1₁ e1₂ = (e0₁ ∙ sym e0₂, e1₁ ∙ sym e1₂)

pub payload-read-determined : (kind subtype : ℕ) (payload sheet counts : List ℕ) (r₁ r₂ : ℕ) (sheet₁ sheet₂ : List ℕ) (counts₁ counts₂ : List ℕ)
    → r₁ ≡ answered counts_room counts (export-payloads.told_read (read_answer kind subtype payload sheet))
    → r₂ ≡ answered counts_room counts (export-payloads.told_read (read_answer kind subtype payload sheet))
    → sheet₁ ≡ room_for counts_room counts sheet (sheet_after kind subtype payload sheet)
    → sheet₂ ≡ room_for counts_room counts sheet (sheet_after kind subtype payload sheet)
    → counts₁ ≡ lent_after counts_room counts (export-payloads.told_read (read_answer kind subtype payload sheet))
    → counts₂ ≡ lent_after counts_room counts (export-payloads.told_read (read_answer kind subtype payload sheet))
    → (r₁ ≡ r₂) × (sheet₁ ≡ sheet₂) × (counts₁ ≡ counts₂)
payload-read-determined kind subtype payload sheet counts r₁ r₂ sheet₁ sheet₂ counts₁ counts₂ e0₁ e0₂ e1₁ e1₂ e2₁ e2₂ = (e0₁ ∙ sym e0₂, e1₁ ∙ sym e1₂, e2₁ ∙ sym e2₂)

pub sheet-judge-determined : (kind subtype : ℕ) (sheet counts : List ℕ) (r₁ r₂ : ℕ) (counts₁ counts₂ : List ℕ)
    → r₁ ≡ answered counts_room counts (export-payloads.told_written (judged_sheet kind subtype sheet))
    → r₂ ≡ answered counts_room counts (export-payloads.told_written (judged_sheet kind subtype sheet))
    → counts₁ ≡ lent_after counts_room counts (export-payloads.told_written (judged_sheet kind subtype sheet))
    → counts₂ ≡ lent_after counts_room counts (export-payloads.told_written (judged_sheet kind subtype sheet))
    → (r₁ ≡ r₂) × (counts₁ ≡ counts₂)
sheet-judge-determined kind subtype sheet counts r₁ r₂ counts₁ counts₂ e0₁ e0₂ e1₁ e1₂ = (e0₁ ∙ sym e0₂, e1₁ ∙ sym e1₂)

pub sheet-write-determined : (kind subtype : ℕ) (sheet out counts : List ℕ) (r₁ r₂ : ℕ) (out₁ out₂ : List ℕ) (counts₁ counts₂ : List ℕ)
    → r₁ ≡ answered counts_room counts (export-payloads.told_written (write_answer kind subtype sheet out))
    → r₂ ≡ answered counts_room counts (export-payloads.told_written (write_answer kind subtype sheet out))
    → Bytes out₁
    → Bytes out₂
    → to_bits out₁ ≡ room_for counts_room counts (to_bits out) (sheet-sheet.out_after kind subtype sheet out)
    → to_bits out₂ ≡ room_for counts_room counts (to_bits out) (sheet-sheet.out_after kind subtype sheet out)
    → counts₁ ≡ lent_after counts_room counts (export-payloads.told_written (write_answer kind subtype sheet out))
    → counts₂ ≡ lent_after counts_room counts (export-payloads.told_written (write_answer kind subtype sheet out))
    → (r₁ ≡ r₂) × (out₁ ≡ out₂) × (counts₁ ≡ counts₂)
sheet-write-determined kind subtype sheet out counts r₁ r₂ out₁ out₂ counts₁ counts₂ e0₁ e0₂ e1-bytes₁ e1-bytes₂ e1₁ e1₂ e2₁ e2₂ = (e0₁ ∙ sym e0₂, to_bits-injective e1-bytes₁ e1-bytes₂ (e1₁ ∙ sym e1₂), e2₁ ∙ sym e2₂)

pub noise-count-determined : (x : ℕ) (r₁ r₂ : ℕ)
    → r₁ ≡ x
    → r₂ ≡ x
    → r₁ ≡ r₂
noise-count-determined x r₁ r₂ e0₁ e0₂ = e0₁ ∙ sym e0₂

pub tray-in-determined : (tray : List ℕ) (r₁ r₂ : Tray)
    → r₁ ≡ tray_in tray
    → r₂ ≡ tray_in tray
    → r₁ ≡ r₂
tray-in-determined tray r₁ r₂ e0₁ e0₂ = e0₁ ∙ sym e0₂

pub put-tray-determined : (held : Tray) (tray : List ℕ) (tray₁ tray₂ : List ℕ)
    → tray₁ ≡ stored (tray_of held) tray
    → tray₂ ≡ stored (tray_of held) tray
    → tray₁ ≡ tray₂
put-tray-determined held tray tray₁ tray₂ e0₁ e0₂ = e0₁ ∙ sym e0₂

pub stream-call-determined : (bytes tray input told header : List ℕ) (r₁ r₂ : ℕ) (bytes₁ bytes₂ : List ℕ) (tray₁ tray₂ : List ℕ) (told₁ told₂ : List ℕ) (header₁ header₂ : List ℕ)
    → r₁ ≡ rooms tray told header 9 (told_answer (call_of bytes tray input)).number
    → r₂ ≡ rooms tray told header 9 (told_answer (call_of bytes tray input)).number
    → bytes₁ ≡ rooms tray told header bytes (call_leaves bytes tray input)
    → bytes₂ ≡ rooms tray told header bytes (call_leaves bytes tray input)
    → tray₁ ≡ rooms tray told header tray (laid (tray_told (call_of bytes tray input)) tray)
    → tray₂ ≡ rooms tray told header tray (laid (tray_told (call_of bytes tray input)) tray)
    → told₁ ≡ rooms tray told header told (laid (told_answer (call_of bytes tray input)).numbers told)
    → told₂ ≡ rooms tray told header told (laid (told_answer (call_of bytes tray input)).numbers told)
    → header₁ ≡ rooms tray told header header (laid (header_told (call_of bytes tray input)) header)
    → header₂ ≡ rooms tray told header header (laid (header_told (call_of bytes tray input)) header)
    → (r₁ ≡ r₂) × (bytes₁ ≡ bytes₂) × (tray₁ ≡ tray₂) × (told₁ ≡ told₂) × (header₁ ≡ header₂)
stream-call-determined bytes tray input told header r₁ r₂ bytes₁ bytes₂ tray₁ tray₂ told₁ told₂ header₁ header₂ e0₁ e0₂ e1₁ e1₂ e2₁ e2₂ e3₁ e3₂ e4₁ e4₂ = (e0₁ ∙ sym e0₂, e1₁ ∙ sym e1₂, e2₁ ∙ sym e2₂, e3₁ ∙ sym e3₂, e4₁ ∙ sym e4₂)

pub stream-finish-determined : (bytes tray told header : List ℕ) (r₁ r₂ : ℕ) (bytes₁ bytes₂ : List ℕ) (tray₁ tray₂ : List ℕ) (told₁ told₂ : List ℕ) (header₁ header₂ : List ℕ)
    → r₁ ≡ rooms tray told header 9 (told_answer (finish_of bytes tray)).number
    → r₂ ≡ rooms tray told header 9 (told_answer (finish_of bytes tray)).number
    → bytes₁ ≡ rooms tray told header bytes (finish_leaves bytes tray)
    → bytes₂ ≡ rooms tray told header bytes (finish_leaves bytes tray)
    → tray₁ ≡ rooms tray told header tray (laid (tray_told (finish_of bytes tray)) tray)
    → tray₂ ≡ rooms tray told header tray (laid (tray_told (finish_of bytes tray)) tray)
    → told₁ ≡ rooms tray told header told (laid (told_answer (finish_of bytes tray)).numbers told)
    → told₂ ≡ rooms tray told header told (laid (told_answer (finish_of bytes tray)).numbers told)
    → header₁ ≡ rooms tray told header header (laid (header_told (finish_of bytes tray)) header)
    → header₂ ≡ rooms tray told header header (laid (header_told (finish_of bytes tray)) header)
    → (r₁ ≡ r₂) × (bytes₁ ≡ bytes₂) × (tray₁ ≡ tray₂) × (told₁ ≡ told₂) × (header₁ ≡ header₂)
stream-finish-determined bytes tray told header r₁ r₂ bytes₁ bytes₂ tray₁ tray₂ told₁ told₂ header₁ header₂ e0₁ e0₂ e1₁ e1₂ e2₁ e2₂ e3₁ e3₂ e4₁ e4₂ = (e0₁ ∙ sym e0₂, e1₁ ∙ sym e1₂, e2₁ ∙ sym e2₂, e3₁ ∙ sym e3₂, e4₁ ∙ sym e4₂)
