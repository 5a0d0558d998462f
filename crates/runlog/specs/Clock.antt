-- Definitions to believe: the second in a text such as "12345.67 23456.78", which the system gives for the time that it has been up.
use Rattle.std.specs.Prelude.{cond, ◌&&◌, List, [], ◌∷◌, ℕ, ◌+◌, ◌*◌, ◌-◌, ltb}
use Rattle.runlog.specs.Command.{is_digit}

-- digits behind the number n, as long as it stays below 10^18
unfoldable pub second_from : List ℕ → (n : ℕ) → ℕ
second_from [] n = n
second_from (x ∷ rest) n = cond (is_digit x && ltb n 100000000000000000) (second_from rest (10 * n + (x - 48))) n

-- the whole number that a text begins with, the first 18 digits of a longer one, zeros in front not counted; 0 where it begins with none
abbrev pub second_in : (text : List ℕ) → ℕ
second_in text = second_from text 0
