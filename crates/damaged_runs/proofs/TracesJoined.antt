-- Traces joined end to end.
-- Assumes nothing.
use mathlib.Core.Path.{◌≡◌, ◌∙◌, refl, ap, ap₂}
use mathlib.Core.List.{List, [], ◌∷◌, ◌++◌}
use Prim.Native.Nat.{ℕ, suc}
use lib.ListN.{length}
use Rattle.recogniser.specs.declared.Request.{Request}
use Rattle.recogniser.specs.declared.Recogniser.{Recogniser}
use Rattle.recogniser.specs.Step.{step_of}
use Rattle.damage.specs.Traces.{requests_of, recogniser_after}

pub requests_append : (r : Recogniser) (xs ys : List ℕ) → requests_of r (xs ++ ys) ≡ requests_of r xs ++ requests_of (recogniser_after r xs) ys
unfolding requests_of recogniser_after
requests_append r [] ys = refl
requests_append r (x ∷ xs) ys = ap (λ (l : List Request). (step_of r x 0).event.request ∷ l) (requests_append (step_of r x 0).next xs ys)

pub after_append : (r : Recogniser) (xs ys : List ℕ) → recogniser_after r (xs ++ ys) ≡ recogniser_after (recogniser_after r xs) ys
unfolding recogniser_after
after_append r [] ys = refl
after_append r (x ∷ xs) ys = after_append (step_of r x 0).next xs ys

pub length_requests : (r : Recogniser) (xs : List ℕ) → length (requests_of r xs) ≡ length xs
unfolding requests_of
length_requests r [] = refl
length_requests r (x ∷ xs) = ap suc (length_requests (step_of r x 0).next xs)

-- From r the bits ask for the requests and lead to v.
pub record Shows (r : Recogniser) (bits : List ℕ) (requests : List Request) (v : Recogniser) : Type 0 where
  pub seen : requests_of r bits ≡ requests
  pub left : recogniser_after r bits ≡ v

pub chain : {r s t : Recogniser} {xs ys : List ℕ} {es fs : List Request} → Shows r xs es s → Shows s ys fs t → Shows r (xs ++ ys) (es ++ fs) t
chain {r} {s} {t} {xs} {ys} {es} {fs} a b = record {
  seen = requests_append r xs ys ∙ ap₂ ◌++◌ a.seen (ap (λ (q : Recogniser). requests_of q ys) a.left ∙ b.seen);
  left = after_append r xs ys ∙ ap (λ (q : Recogniser). recogniser_after q ys) a.left ∙ b.left;
}

-- The same where only the requests of the second part are known.
pub onward : {r s : Recogniser} {xs : List ℕ} {es fs : List Request} → Shows r xs es s → (ys : List ℕ) → requests_of s ys ≡ fs
    → requests_of r (xs ++ ys) ≡ es ++ fs
onward {r} {s} {xs} {es} {fs} a ys e =
    requests_append r xs ys ∙ ap₂ ◌++◌ a.seen (ap (λ (q : Recogniser). requests_of q ys) a.left ∙ e)
