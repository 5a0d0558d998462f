-- Serves proofs, and is proved: a `match` of the code where a definition goes by cases.
use Rattle.std.specs.Prelude.{◌≡◌}
use Rattle.std.proofs.Common.{ap, sym, ◌∙◌}

-- an arm of a `match` on s, which is v there
pub arm : {S A : Type 0} (f : S → A) {s v : S} {r : A} → s ≡ v → r ≡ f v → r ≡ f s
arm f e h = h ∙ ap f (sym e)

-- What a function that is one `match` on s ensures of its result: it is f of s, given `arm`. So the search has `arm` at hand and
-- closes each of the arms, however many there are: such a function has no file of proofs. Its caller says `matched`.
abbrev pub Matched : {S A : Type 0} → (f : S → A) (s : S) (r : A) → Type 0
Matched {S} {A} f s r = ((v : S) (x : A) → s ≡ v → x ≡ f v → x ≡ f s) → r ≡ f s

pub matched : {S A : Type 0} (f : S → A) {s : S} {r : A} → Matched f s r → r ≡ f s
matched f h = h (λ v x e q. arm f e q)
