-- Theorems (document 02, request 2): "Every call above passes the place on as it got it." A desk that refuses a frame at a place refuses it as the reader refuses its payload, so the place is
-- the reader's (`judged-faults` of crate sheet says what that is). Proved; assumes nothing.
use Rattle.std.specs.Prelude.{◌≡◌, Bool, true, false, cond, not, List, ℕ, eqb, length, Err, Some, None}
use Rattle.std.proofs.Math.Path.{refl}
use Rattle.std.proofs.Common.{ap, ap₂, sym, ◌∙◌, arith, eqb-true}
use Rattle.std.proofs.lemmas.Bool.{not-false, eqb-false}
use Rattle.answer.specs.Stop.{stop}
use Rattle.answer.specs.Place.{nowhere}
use Rattle.answer.specs.declared.Fault as answer
use Rattle.answer.specs.declared.Refusal.{Refusal}
use Rattle.answer.specs.declared.Refusal.TheVariants as refusal
use Rattle.layout.specs.Layout.{done, read_l}
use Rattle.layout.specs.Layout as layout
use Rattle.bits.specs.Bits.{to_bits}
use Rattle.hpac.specs.Hpac.{Hpac, hpac}
use Rattle.gad.specs.Gad.{Gad}
use Rattle.message.specs.Messages.{Message, ocb_message, hpac_message, gad_message, bpac_message}
use Rattle.sheet.specs.Sheet.{bad_length, judging, judged, read_answer_by}
use Rattle.frame.specs.Check.{checked, payload_in}
use Rattle.frame.specs.declared.Frame.{Frame}
use Rattle.frame.specs.declared.Checked.{Checked}
use Rattle.frame.specs.declared.Checked.TheVariants as check
use Rattle.book.specs.Take as gads
use Rattle.book.specs.PassedOn.{Placeless, outcome-placeless}
use Rattle.desk.specs.Desk.{desk_sound}
use Rattle.desk.specs.Take.{Handed, Verdict, refused, continues, opens, by_run, bad_tag, tag_of, by_book, by_message, by_payload, our_type, ours, is_sealed, by_header, by_frame, handling, lacks_room, verdict}
use Rattle.desk.specs.Carrying.{carried}
use Rattle.desk.specs.Payloads.{our-type, our-subtype, our-row, judging-hpac}
use Rattle.desk.specs.declared.Desk.{Desk}
use Rattle.desk.specs.Results.{Run}

-- ---- the desk's own refusals have no place

module _ (why : answer.Fault) (sf at : ℕ) (p : why.place ≡ Some (record { sf = sf; at = at })) where
  no_place : None ≡ why.place → ⊥
  no_place e = let z : None ≡ Some (record { sf = sf; at = at }) = e ∙ p in let y : ◌≡◌ {A = ℕ} 0 1 = cc in omega arith

  not_plain : (r : Refusal) → refused (nowhere r) ≡ refused why → ⊥
  not_plain r e = let z : nowhere r ≡ why = cc in no_place (ap (λ (x : answer.Fault). x.place) z)

  past : (b : Bool) (r : Refusal) (rest : Verdict) → stop b (refused (nowhere r)) rest ≡ refused why → (b ≡ false) × (rest ≡ refused why)
  past true r rest e = absurd (not_plain r e)
  past false r rest e = (refl, e)

  not-run : (run : Run) (tag : ℕ) (message : Hpac) → by_run run tag message ≡ refused why → ⊥
  not-run None tag message e = let z : ◌≡◌ {A = ℕ} 0 1 = cc in omega arith
  not-run (Some p) tag message e = go (eqb tag p.tag) e
    where
      go : (b : Bool) → cond b (continues p.book message) (opens tag message) ≡ refused why → ⊥
      go true e = let z : ◌≡◌ {A = ℕ} 0 1 = cc in omega arith
      go false e = let z : ◌≡◌ {A = ℕ} 0 1 = cc in omega arith

  not-gad : (o : gads.Outcome) (aiou siou : ℕ) (live : List ℕ) → Placeless o → by_book (gads.answer_of o aiou siou) (gads.left_by o live) ≡ refused why → ⊥
  not-gad (gads.taken l) aiou siou live h e = let z : ◌≡◌ {A = ℕ} 0 1 = cc in omega arith
  not-gad (gads.refused w) aiou siou live h e = let z : w ≡ why = cc in no_place (sym h ∙ ap (λ (x : answer.Fault). x.place) z)

  -- ---- so a place is the payload's

  module _ (desk : Desk) (live : List ℕ) (header : Frame) (payload : List ℕ) where
    -- a GAD that reads is one of type 2-0
    two-zero : (m : Gad) (codes : List ℕ) (used : ℕ) → our_type desk.constellation header.message_type header.subtype ≡ true
        → judging header.message_type header.subtype payload ≡ layout.accepted (gad_message m) codes used → judging 2 0 payload ≡ layout.accepted (gad_message m) codes used
    two-zero m codes used o e = go (eqb header.message_type 2) refl
      where
        other : (b : Bool) (x : layout.Outcome Hpac)
            → stop b (layout.refused (nowhere refusal.Length)) (carried (hpac_message desk.constellation) x) ≡ layout.accepted (gad_message m) codes used → ⊥
        other true x e = let z : ◌≡◌ {A = ℕ} 0 1 = cc in omega arith
        other false (layout.accepted v cs n) e = let z : ◌≡◌ {A = ℕ} 0 1 = cc in omega arith
        other false (layout.refused w) e = let z : ◌≡◌ {A = ℕ} 0 1 = cc in omega arith

        go : (b : Bool) → eqb header.message_type 2 ≡ b → judging 2 0 payload ≡ layout.accepted (gad_message m) codes used
        go true q =
            let k : header.message_type ≡ 2 = eqb-true header.message_type 2 q in
            let s : header.subtype ≡ 0 = our-subtype desk.constellation header.message_type header.subtype o k in
            ap₂ (λ x y. judging x y payload) (sym k) (sym s) ∙ e
        go false q =
            let k = our-row desk.constellation header.message_type header.subtype o (eqb-false header.message_type 2 q) in
            absurd (other (bad_length (length payload)) (read_l (hpac desk.constellation done) (to_bits payload))
            (sym (judging-hpac desk.constellation payload) ∙ ap₂ (λ x y. judging x y payload) (sym k.0) (sym k.1) ∙ e))

    not-read : (message : Message) (codes : List ℕ) (used : ℕ) → our_type desk.constellation header.message_type header.subtype ≡ true
        → judging header.message_type header.subtype payload ≡ layout.accepted message codes used → by_message desk live header payload message ≡ refused why → ⊥
    not-read (hpac_message constellation body) codes used o e q =
        not-run desk.run (tag_of header) body (past (bad_tag header) refusal.Tag (by_run desk.run (tag_of header) body) q).1
    not-read (gad_message body) codes used o e q =
        not-gad (gads.outcome desk.book live payload) _ _ live (outcome-placeless desk.book live payload body codes used (two-zero body codes used o e)) q
    not-read (ocb_message constellation body) codes used o e q = not_plain refusal.NotOurs q
    not-read (bpac_message body) codes used o e q = not_plain refusal.NotOurs q

    by-payload : (x : layout.Outcome Message) → our_type desk.constellation header.message_type header.subtype ≡ true
        → judging header.message_type header.subtype payload ≡ x → by_payload desk live header payload x ≡ refused why
        → judging header.message_type header.subtype payload ≡ layout.refused why
    by-payload (layout.accepted message codes used) o e q = absurd (not-read message codes used o e q)
    by-payload (layout.refused w) o e q = let z : w ≡ why = cc in e ∙ ap layout.refused z

    by-header : by_header desk live header payload ≡ refused why → judging header.message_type header.subtype payload ≡ layout.refused why
    unfolding by_header
    by-header e =
        let a = past (not (ours desk header)) refusal.NotOurs _ e in
        let b = past (is_sealed header.seal) refusal.Sealed _ a.1 in
        by-payload (judging header.message_type header.subtype payload) (our-type desk header (not-false (ours desk header) a.0)) refl b.1

-- the frame's check accepts it, and the reader refuses its payload so
pub record PassedOn (handed : Handed) (why : answer.Fault) : Type 0 where
  pub header : Frame
  pub checks : checked handed.frame ≡ check.Accepted header
  pub reads : judged header.message_type header.subtype (payload_in header handed.frame) ≡ Err why

pub passed_on : (handed : Handed) (why : answer.Fault) (sf at : ℕ) → why.place ≡ Some (record { sf = sf; at = at }) → verdict handed ≡ refused why → PassedOn handed why
unfolding verdict judged
passed_on handed why sf at p e =
    let a = past why sf at p (lacks_room handed.live handed.run handed.log) refusal.Room _ e in
    let b = past why sf at p (not (desk_sound handed.desk handed.live handed.run)) refusal.State _ a.1 in
    go (checked handed.frame) refl b.1
  where
    go : (c : Checked) → checked handed.frame ≡ c → by_frame (handling handed.desk handed.second) handed.live c handed.frame ≡ refused why → PassedOn handed why
    go (check.Accepted header) k q =
        record {
          header = header;
          checks = k;
          reads = ap read_answer_by (by-header why sf at p (handling handed.desk handed.second) handed.live header (payload_in header handed.frame) q);
        }
    go (check.Short wanted) k q = absurd (not_plain why sf at p refusal.Short q)
    go (check.Refused r) k q = absurd (not_plain why sf at p r q)
