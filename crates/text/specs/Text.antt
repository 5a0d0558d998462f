-- Definitions to believe: a text put behind the first bytes of a lent buffer, a text said behind the bytes that wait in it, which bytes go out then, and a number in decimal digits.
use Rattle.std.specs.Prelude.{Bool, cond, List, [], ◌∷◌, ◌++◌, ℕ, zero, suc, ◌+◌, ◌/◌, ◌%◌, ◌≤◌, leb, ltb, length, take, drop}

-- whether it has room
unfoldable pub fits : (out : List ℕ) (at : ℕ) (text : List ℕ) → Bool
fits out at text = leb (at + length text) (length out)

-- where it ends
unfoldable pub end_after : (out : List ℕ) (at : ℕ) (text : List ℕ) → ℕ
end_after out at text = cond (fits out at text) (at + length text) at

-- the buffer then
unfoldable pub out_after : (out : List ℕ) (at : ℕ) (text : List ℕ) → List ℕ
out_after out at text = cond (fits out at text) (take at out ++ (text ++ drop (at + length text) out)) out

-- ---- a text that is said

-- where it is put: behind the bytes that wait, or, if it has no room there, at the start, since those go out first
unfoldable pub place_for : (out : List ℕ) (at : ℕ) (text : List ℕ) → ℕ
place_for out at text = cond (fits out at text) at 0

-- how many bytes wait then, and the buffer; a text for which the empty buffer has no room either is lost
unfoldable pub waiting_after : (out : List ℕ) (at : ℕ) (text : List ℕ) → ℕ
waiting_after out at text = end_after out (place_for out at text) text

unfoldable pub said_after : (out : List ℕ) (at : ℕ) (text : List ℕ) → List ℕ
said_after out at text = out_after out (place_for out at text) text

-- ---- texts one after the other

-- a buffer, and how many of its bytes are text; of a buffer for output those wait to go out
pub record Waiting : Type 0 where
  pub out : List ℕ
  pub at : ℕ

abbrev pub waiting : (out : List ℕ) (at : ℕ) → Waiting
waiting out at = record { out = out; at = at }

-- put behind each other
unfoldable pub put_all : Waiting → List (List ℕ) → Waiting
put_all w [] = w
put_all w (text ∷ texts) = put_all (waiting (out_after w.out w.at text) (end_after w.out w.at text)) texts

-- said
unfoldable pub say_all : Waiting → List (List ℕ) → Waiting
say_all w [] = w
say_all w (text ∷ texts) = say_all (waiting (said_after w.out w.at text) (waiting_after w.out w.at text)) texts

-- the bytes that go out while they are said: those that wait, if so many are there, before a text that has no room behind them
abbrev pub goes_out : Waiting → (text : List ℕ) → List ℕ
goes_out w text = cond (fits w.out w.at text) [] (cond (leb w.at (length w.out)) (take w.at w.out) [])

unfoldable pub gone_out : Waiting → List (List ℕ) → List ℕ
gone_out w [] = []
gone_out w (text ∷ texts) = goes_out w text ++ gone_out (waiting (said_after w.out w.at text) (waiting_after w.out w.at text)) texts

-- all that goes out where texts are said from an empty buffer on, and then what waits
abbrev pub whole_output : (out : List ℕ) → List (List ℕ) → (out' : List ℕ) (at' : ℕ) → List ℕ
whole_output out texts out' at' = gone_out (waiting out 0) texts ++ take at' out'

-- no text is longer than there is room for
abbrev pub Short : (room : ℕ) → List (List ℕ) → Type 0
Short room [] = Unit {0}
Short room (text ∷ texts) = (length text ≤ room) × Short room texts

-- ---- a number

-- a digit's byte
abbrev pub digit : ℕ → ℕ
digit n = 48 + n % 10

-- The digits, the most significant first, with no 0 before them. A number has fewer digits than the number that comes after it, so that many steps are enough for all of them.
unfoldable pub digits_in : (steps : ℕ) → ℕ → List ℕ
digits_in zero n = []
digits_in (suc steps) n = cond (ltb n 10) (digit n ∷ []) (digits_in steps (n / 10) ++ (digit n ∷ []))

unfoldable pub decimal : ℕ → List ℕ
decimal n = digits_in (suc n) n
