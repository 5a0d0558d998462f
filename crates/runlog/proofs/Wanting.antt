-- What a command line asks for, test by test, over plain variables.
use Rattle.std.specs.Prelude.{Ok, Err, Some, None}
use mathlib.Core.Path.{◌≡◌}
use mathlib.Core.Bool.{Bool, true, false}
use mathlib.Core.List.{List}
use Prim.Native.Nat.{ℕ}
use borrow.Author.Tests.{eq-eqb, ne_eqb}
use Rattle.runlog.specs.declared.command.Log.{Log}
use Rattle.answer.specs.declared.Refusal.{Refusal}
use Rattle.desk.specs.declared.Desk.{Desk}
use Rattle.desk.specs.Results.{NewDesk}
use Rattle.desk.specs.Desk.{new_desk}
use Rattle.runlog.specs.Results.{Byte}
use Rattle.runlog.specs.declared.command.Form.{Form}
use Rattle.runlog.specs.declared.command.Form.TheVariants as form
use Rattle.runlog.specs.Results.{Wanted}
use Rattle.runlog.specs.Results.{Job}
use Rattle.runlog.specs.Command.{byte_of, is_raw, form_of, logged_in, wanted_by, job_by, job_of}

-- the form
module _ (count : ℕ) (word : List ℕ) where
  pub form-words : count ≡ 4 → form.Words ≡ form_of count word
  unfolding form_of
  form-words h = rw (eq-eqb count 4 h)

  module _ (n : count ≡ 4 → ⊥) where
    pub form-other : (count ≡ 5 → ⊥) → form.Unknown ≡ form_of count word
    unfolding form_of
    form-other h = rw (ne_eqb count 4 n, ne_eqb count 5 h)

    module _ (h : count ≡ 5) (b : Bool) (e : b ≡ is_raw word) where
      pub form-raw : b ≡ true → form.Raw ≡ form_of count word
      unfolding form_of
      form-raw q = rw (ne_eqb count 4 n, eq-eqb count 5 h, ← e, q)

      pub form-unknown : b ≡ false → form.Unknown ≡ form_of count word
      unfolding form_of
      form-unknown q = rw (ne_eqb count 4 n, eq-eqb count 5 h, ← e, q)

module _ (f : Form) (solution processor constellation : ℕ) where
  pub logged-words : f ≡ form.Words → Some (record { solution = solution; processor = processor; constellation = constellation; raw = false }) ≡ logged_in f solution processor constellation
  logged-words e = rw e

  pub logged-raw : f ≡ form.Raw → Some (record { solution = solution; processor = processor; constellation = constellation; raw = true }) ≡ logged_in f solution processor constellation
  logged-raw e = rw e

  pub logged-not : f ≡ form.Unknown → None ≡ logged_in f solution processor constellation
  logged-not e = rw e

-- three numbers and the form, or nothing
module _ (count : ℕ) (first second third fourth : List ℕ) (a : Byte) (ea : a ≡ byte_of first) where
  pub no-solution : a ≡ None → None ≡ wanted_by count first second third fourth
  no-solution q = rw (← ea, q)

  module _ (solution : ℕ) (qa : a ≡ Some solution) (b : Byte) (eb : b ≡ byte_of second) where
    pub no-processor : b ≡ None → None ≡ wanted_by count first second third fourth
    no-processor q = rw (← ea, qa, ← eb, q)

    module _ (processor : ℕ) (qb : b ≡ Some processor) (c : Byte) (ec : c ≡ byte_of third) where
      pub no-constellation : c ≡ None → None ≡ wanted_by count first second third fourth
      no-constellation q = rw (← ea, qa, ← eb, qb, ← ec, q)

      pub all-numbers : (constellation : ℕ) → c ≡ Some constellation → (f : Form) → f ≡ form_of count fourth → (r : Wanted) → r ≡ logged_in f solution processor constellation
          → r ≡ wanted_by count first second third fourth
      all-numbers constellation qc f ef r p = rw (← ea, qa, ← eb, qb, ← ec, qc, ← ef) p

-- the desk
module _ (made : NewDesk) (raw : Bool) where
  pub job-usage : (why : Refusal) → made ≡ Err why → None ≡ job_by made raw
  job-usage why e = rw e

  pub job-run : (desk : Desk) → made ≡ Ok desk → Some (record { desk = desk; raw = raw }) ≡ job_by made raw
  job-run desk e = rw e

module _ (wanted : Wanted) where
  pub job-log : (log : Log) (made : NewDesk) (job : Job) → wanted ≡ Some log → made ≡ new_desk log.solution log.processor log.constellation → job ≡ job_by made log.raw
      → job ≡ job_of wanted
  job-log log made job e m j = rw (e, ← m) j

  pub job-nothing : wanted ≡ None → None ≡ job_of wanted
  job-nothing e = rw e
