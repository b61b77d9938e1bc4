-- Truth values: both cases of one, and what a test of two says of each. Crates above cite these.
-- Assumes nothing.
use mathlib.Core.Bool.{Bool, true, false, cond, not, ◌&&◌, ◌||◌}
use mathlib.Core.Logic.{◌⊎◌, inl, inr}
use mathlib.Core.Path.{◌≡◌, refl}
use Prim.Native.Nat.{ℕ, ◌≤◌}
use native.Mathlib.Omega.{arith}
use lib.Dec.{T}

-- Tests as equations. No test is both.
pub clash : {A : Type 0} {b : Bool} → b ≡ true → b ≡ false → A
clash p q = let z : ◌≡◌ {A = ℕ} 0 1 = cc in absurd (omega arith)

pub cases : (b : Bool) → (b ≡ true) ⊎ (b ≡ false)
cases true = inl refl
cases false = inr refl

pub holds_true : (b : Bool) → T b → b ≡ true
holds_true true t = refl
holds_true false t = absurd t

pub true_holds : (b : Bool) → b ≡ true → T b
true_holds b e = rw e tt

-- What holds of both branches holds of the choice.
pub choice : {A : Type 0} (P : A → Type 0) (b : Bool) {x y : A} → (b ≡ true → P x) → (b ≡ false → P y) → P (cond b x y)
choice P true f g = f refl
choice P false f g = g refl

-- A choice under a function.
pub choice_under : {A B : Type 0} (f : A → B) (b : Bool) {x y : B} {u v : A} → x ≡ f u → y ≡ f v → cond b x y ≡ f (cond b u v)
choice_under f true p q = p
choice_under f false p q = q

pub both : (a b : Bool) → (a && b) ≡ true → (a ≡ true) × (b ≡ true)
both true b e = (refl, e)
both false b e = clash e refl

pub either : (a b : Bool) → (a || b) ≡ true → (a ≡ true) ⊎ (b ≡ true)
either true b e = inl refl
either false b e = inr e

pub neither : (a b : Bool) → (a || b) ≡ false → (a ≡ false) × (b ≡ false)
neither true b e = clash refl e
neither false b e = (refl, e)

pub or_left : (a b : Bool) → a ≡ true → (a || b) ≡ true
or_left a b e = simp e

pub or_right : (a b : Bool) → b ≡ true → (a || b) ≡ true
or_right true b e = refl
or_right false b e = e

pub and_all : (b : Bool) → (b && true) ≡ b
and_all true = refl
and_all false = refl

pub or_none : (b : Bool) → (b || false) ≡ b
or_none true = refl
or_none false = refl

pub or_join : (a b c : Bool) → ((a || b) || c) ≡ (a || (b || c))
or_join true b c = refl
or_join false b c = refl

-- Tests that hold.
pub cond_case : {A : Type 0} (P : A → Type 0) (b : Bool) {x y : A} → (T b → P x) → (T (not b) → P y) → P (cond b x y)
cond_case P true f g = f tt
cond_case P false f g = g tt

pub cond_taken : {A : Type 0} (b : Bool) (x y : A) → T b → cond b x y ≡ x
cond_taken true x y t = refl
cond_taken false x y t = absurd t

pub cond_left : {A : Type 0} (b : Bool) (x y : A) → T (not b) → cond b x y ≡ y
cond_left true x y t = absurd t
cond_left false x y t = refl

-- A statement chosen by the test that chose its value.
pub cond_statement : {A : Type 0} (P Q : A → Type 0) (b : Bool) (x y : A) → (T b → P x) → (T (not b) → Q y)
    → cond b (P (cond b x y)) (Q (cond b x y))
cond_statement P Q true x y f g = f tt
cond_statement P Q false x y f g = g tt

-- A choice of two numbers is at most what both are at most.
pub cond_most : (b : Bool) {x y n : ℕ} → x ≤ n → y ≤ n → cond b x y ≤ n
cond_most b {n = n} p q = cond_case (λ v. v ≤ n) b (λ _. p) (λ _. q)

pub and_both : (a b : Bool) → T a → T b → T (a && b)
and_both true b t u = u
and_both false b t u = t

pub and_left : (a b : Bool) → T (a && b) → T a
and_left true b t = tt
and_left false b t = t

pub and_right : (a b : Bool) → T (a && b) → T b
and_right true b t = t
and_right false b t = absurd t

pub or_case : (a b : Bool) → T (a || b) → T a ⊎ T b
or_case true b t = inl tt
or_case false b t = inr t

pub or_else : (a b : Bool) → (T (not a) → T b) → T (a || b)
or_else true b f = tt
or_else false b f = f tt

pub stable : (b : Bool) → (T (not b) → ⊥) → T b
stable true f = tt
stable false f = f tt

-- A test that fails wherever another passes.
pub not_both : (a b : Bool) → (T a → b ≡ false) → (a && b) ≡ false
not_both true b f = f tt
not_both false b f = refl

pub not_other : (a b : Bool) → (a && b) ≡ false → T a → b ≡ false
not_other true b e t = e
not_other false b e t = absurd t
