-- Two results of a public call of this crate cannot differ: for equal inputs, answers and lent buffers that meet the contract are equal. Proved.
-- Written by tests/determined from the contracts in src/.
use Rattle.std.specs.Prelude.{ℕ, Float, List, ◌≡◌}
use Rattle.entries.specs.Answers.{read_answer, satellite_answer, slant_answer, troposphere_answer}
use Rattle.entries.specs.Read.{read_entry}
use Rattle.export.specs.Meanings.{unit_room, value_room}
use Rattle.export.specs.Numbers.{answered, lent_after}
use Rattle.exportentries.specs.Entries.{entry_room, satellite_room, told_entry, told_residual, told_satellite}
use Rattle.exportviews.specs.Views.{floats_after, number_told, view_after}
use Rattle.std.proofs.Common.{◌∙◌, sym}

pub entry-read-determined : (bytes entry : List ℕ) (r₁ r₂ : ℕ) (entry₁ entry₂ : List ℕ)
    → r₁ ≡ answered entry_room entry (told_entry (read_answer (read_entry bytes)))
    → r₂ ≡ answered entry_room entry (told_entry (read_answer (read_entry bytes)))
    → entry₁ ≡ lent_after entry_room entry (told_entry (read_answer (read_entry bytes)))
    → entry₂ ≡ lent_after entry_room entry (told_entry (read_answer (read_entry bytes)))
    → (r₁ ≡ r₂) × (entry₁ ≡ entry₂)
entry-read-determined bytes entry r₁ r₂ entry₁ entry₂ e0₁ e0₂ e1₁ e1₂ = (e0₁ ∙ sym e0₂, e1₁ ∙ sym e1₂)

pub entry-troposphere-determined : (bytes : List ℕ) (node : ℕ) (what : List ℕ) (value : List Float) (r₁ r₂ : ℕ) (what₁ what₂ : List ℕ) (value₁ value₂ : List Float)
    → r₁ ≡ number_told unit_room what value_room value (told_residual (troposphere_answer (read_entry bytes) node))
    → r₂ ≡ number_told unit_room what value_room value (told_residual (troposphere_answer (read_entry bytes) node))
    → what₁ ≡ view_after unit_room what value_room value (told_residual (troposphere_answer (read_entry bytes) node))
    → what₂ ≡ view_after unit_room what value_room value (told_residual (troposphere_answer (read_entry bytes) node))
    → value₁ ≡ floats_after unit_room what value_room value (told_residual (troposphere_answer (read_entry bytes) node))
    → value₂ ≡ floats_after unit_room what value_room value (told_residual (troposphere_answer (read_entry bytes) node))
    → (r₁ ≡ r₂) × (what₁ ≡ what₂) × (value₁ ≡ value₂)
entry-troposphere-determined bytes node what value r₁ r₂ what₁ what₂ value₁ value₂ e0₁ e0₂ e1₁ e1₂ e2₁ e2₂ = (e0₁ ∙ sym e0₂, e1₁ ∙ sym e1₂, e2₁ ∙ sym e2₂)

pub entry-satellite-determined : (bytes : List ℕ) (k : ℕ) (satellite : List ℕ) (r₁ r₂ : ℕ) (satellite₁ satellite₂ : List ℕ)
    → r₁ ≡ answered satellite_room satellite (told_satellite (satellite_answer (read_entry bytes) k))
    → r₂ ≡ answered satellite_room satellite (told_satellite (satellite_answer (read_entry bytes) k))
    → satellite₁ ≡ lent_after satellite_room satellite (told_satellite (satellite_answer (read_entry bytes) k))
    → satellite₂ ≡ lent_after satellite_room satellite (told_satellite (satellite_answer (read_entry bytes) k))
    → (r₁ ≡ r₂) × (satellite₁ ≡ satellite₂)
entry-satellite-determined bytes k satellite r₁ r₂ satellite₁ satellite₂ e0₁ e0₂ e1₁ e1₂ = (e0₁ ∙ sym e0₂, e1₁ ∙ sym e1₂)

pub entry-residual-determined : (bytes : List ℕ) (k node : ℕ) (what : List ℕ) (value : List Float) (r₁ r₂ : ℕ) (what₁ what₂ : List ℕ) (value₁ value₂ : List Float)
    → r₁ ≡ number_told unit_room what value_room value (told_residual (slant_answer (read_entry bytes) k node))
    → r₂ ≡ number_told unit_room what value_room value (told_residual (slant_answer (read_entry bytes) k node))
    → what₁ ≡ view_after unit_room what value_room value (told_residual (slant_answer (read_entry bytes) k node))
    → what₂ ≡ view_after unit_room what value_room value (told_residual (slant_answer (read_entry bytes) k node))
    → value₁ ≡ floats_after unit_room what value_room value (told_residual (slant_answer (read_entry bytes) k node))
    → value₂ ≡ floats_after unit_room what value_room value (told_residual (slant_answer (read_entry bytes) k node))
    → (r₁ ≡ r₂) × (what₁ ≡ what₂) × (value₁ ≡ value₂)
entry-residual-determined bytes k node what value r₁ r₂ what₁ what₂ value₁ value₂ e0₁ e0₂ e1₁ e1₂ e2₁ e2₂ = (e0₁ ∙ sym e0₂, e1₁ ∙ sym e1₂, e2₁ ∙ sym e2₂)
