-- Serves proofs: what the functions of store_bpac.rt must come to, by the parts of the BPAC layout (document 000, tables 6.25 to 6.28).
use Rattle.std.specs.Prelude.{◌≡◌, List, [], ◌∷◌, ◌++◌, ℕ, ◌+◌, ◌*◌, ◌/◌, ◌%◌, ◌≤◌, eqb, set}
use Rattle.bits.specs.Bits.{to_bits}
use Rattle.layout.specs.Layout.{Layout, field, pick}
use Rattle.layout.specs.Parts.{free, times}
use Rattle.layout.specs.Run.{finished, run_l}
use Rattle.bpac.specs.Bpac.{Vtec, set_bits, vtec, area}
use Rattle.message.specs.Messages.{Message, bpac_layout}
use Rattle.sheet.specs.declared.store.Here.{Here}
use Rattle.sheet.specs.Stores.{Finishes, Stores}

-- the residual of a VTEC block out of the 16 bits from its first on: of 7 bits or of 11, by its size
unfoldable pub residual_of : (word : ℕ) → ℕ
residual_of word = pick (eqb (word / 2048 % 2) 0) (word / 16 % 128) (word % 2048)

-- a VTEC block up to bit r, and n of them
pub record VtecStored (payload : List ℕ) (pos at : ℕ) (sheet : List ℕ) (r : ℕ) (sheet' : List ℕ) : Type 0 where
  pub stores : Stores payload vtec pos at sheet r (at + 3) sheet'
  pub few : r ≤ pos + 16

pub record VtecsStored (payload : List ℕ) (n pos at : ℕ) (sheet : List ℕ) (r : Here) (sheet' : List ℕ) : Type 0 where
  pub stores : Stores payload (times n vtec) pos at sheet r.pos r.at sheet'
  pub few : r.pos ≤ pos + 16 * n
  pub light : r.at ≤ at + 3 * n

-- n groups of 64, in which so many bits are set
pub record GroupsStored (payload : List ℕ) (n pos at : ℕ) (sheet : List ℕ) (r : ℕ) (sheet' : List ℕ) : Type 0 where
  pub stores : Stores payload (times n (field (free 79 64))) pos at sheet (pos + 64 * n) (at + n) sheet'
  pub count : r ≡ set_bits stores.value
  pub few : r ≤ 64 * n

-- the node mask, up to its node `last`, and the blocks that it says
abbrev pub nodes_by : (last : ℕ) → (List ℕ × List Vtec → Layout Message) → Layout Message
nodes_by last k =
    times (last / 64) (field (free 79 64)) (λ groups.
    field (free 79 (last % 64 + 1)) (λ mask.
    times (set_bits (groups ++ (mask ∷ []))) vtec (λ nodes.
    k (groups ++ (mask ∷ []), nodes))))

-- the first three codes of an area's 43 bits before its node mask, each in its entry, and the next four
unfoldable pub place_on : (head at : ℕ) (sheet : List ℕ) → List ℕ
place_on head at sheet = set (set (set sheet at (head / 2199023255552 % 4)) (at + 1) (head / 8589934592 % 256)) (at + 2) (head / 16777216 % 512)

unfoldable pub grid_on : (head at : ℕ) (sheet : List ℕ) → List ℕ
grid_on head at sheet = set (set (set (set sheet at (head / 1048576 % 16)) (at + 1) (head / 65536 % 16)) (at + 2) (head / 16384 % 4)) (at + 3) (head / 4096 % 4)

-- the four codes of a message's first 14 bits, each in its entry
unfoldable pub head_on : (head : ℕ) (sheet : List ℕ) → List ℕ
head_on head sheet = set (set (set (set sheet 0 (head / 32 % 512)) 1 (head / 16 % 2)) 2 (head / 4 % 4)) 3 (head % 4)

-- areas, from the end of the message's head on
pub record AreasStored (payload : List ℕ) (n : ℕ) (sheet sheet' : List ℕ) : Type 0 where
  pub end : ℕ
  pub entries : ℕ
  pub stores : Stores payload (times n area) 14 4 sheet end entries sheet'

-- the message
pub record BpacStored (payload sheet sheet' : List ℕ) : Type 0 where
  pub count : ℕ
  pub used : ℕ
  pub is : Finishes (run_l bpac_layout (to_bits payload) 0 0 sheet) → run_l bpac_layout (to_bits payload) 0 0 sheet ≡ finished count used sheet'
