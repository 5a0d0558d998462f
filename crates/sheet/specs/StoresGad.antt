-- Serves proofs: what the functions of store_gad.rt must come to, by the parts of the GAD layout (document 000, tables 6.23 and 6.24).
use Rattle.std.specs.Prelude.{◌≡◌, List, ℕ, ◌+◌, ◌/◌, ◌%◌, set}
use Rattle.bits.specs.Bits.{to_bits}
use Rattle.layout.specs.Parts.{times}
use Rattle.layout.specs.Run.{finished, run_l}
use Rattle.gad.specs.Gad.{block}
use Rattle.message.specs.Messages.{gad_layout}
use Rattle.sheet.specs.Stores.{Finishes, Stores}

-- the four codes of a message's first 19 bits, each in its entry
unfoldable pub head_on : (head : ℕ) (sheet : List ℕ) → List ℕ
head_on head sheet = set (set (set (set sheet 0 (head / 1024 % 512)) 1 (head / 64 % 16)) 2 (head / 32 % 2)) 3 (head % 32)

-- the first three codes of a block's 47 bits, each in its entry, and the last four
unfoldable pub place_on : (word at : ℕ) (sheet : List ℕ) → List ℕ
place_on word at sheet = set (set (set sheet at (word / 549755813888 % 256)) (at + 1) (word / 268435456 % 2048)) (at + 2) (word / 65536 % 0x1000)

unfoldable pub grid_on : (word at : ℕ) (sheet : List ℕ) → List ℕ
grid_on word at sheet = set (set (set (set sheet at (word / 8192 % 8)) (at + 1) (word / 1024 % 8)) (at + 2) (word / 32 % 32)) (at + 3) (word % 32)

-- blocks, from the end of the message's head on
pub record BlocksStored (payload : List ℕ) (n : ℕ) (sheet sheet' : List ℕ) : Type 0 where
  pub end : ℕ
  pub entries : ℕ
  pub stores : Stores payload (times n block) 19 4 sheet end entries sheet'

-- the message
pub record GadStored (payload sheet sheet' : List ℕ) : Type 0 where
  pub count : ℕ
  pub used : ℕ
  pub is : Finishes (run_l gad_layout (to_bits payload) 0 0 sheet) → run_l gad_layout (to_bits payload) 0 0 sheet ≡ finished count used sheet'
