-- The table of names: a name's entry among its entries has the kind that the name has among the commands.
-- Assumes nothing.
use mathlib.Core.Bool.{Bool, true, false, cond, not, ◌&&◌}
use mathlib.Core.List.{List, [], ◌∷◌, map}
use mathlib.Core.Path.{◌≡◌, ◌∙◌, refl, sym, ap}
use Prim.Native.Nat.{ℕ}
use lib.Dec.{eqb}
use denote.Ref.{Bor}
use Rattle.std.proofs.Common.{Option, Some, None, MatchOption}
use Rattle.std.specs.List.{find}
use Rattle.std.specs.Option.{option_map, IsSomeAnd}
use Rattle.bits.proofs.Truth.{both}
use Rattle.text_words.specs.Words.{same_word}
use Rattle.command_names.specs.Names.{Named, named, commands, kind_among, kind_named, known_kind}

abbrev pub Entry : Type 0
Entry = Bor (List ℕ) × ℕ

abbrev pub as_named : Entry → Named
as_named e = named e.0.now e.1

unset : (b : Bool) → not b ≡ true → b ≡ false
unset true e = sym e
unset false e = refl

abbrev pub kinds_known : List Entry → Bool
kinds_known [] = true
kinds_known (e ∷ es) = not (eqb e.1 0) && kinds_known es

module _ (name : List ℕ) where
  abbrev pub has_name : Entry → Bool
  has_name e = same_word name e.0.now

  found : (es : List Entry) → kinds_known es ≡ true
      → option_map (λ (e : Entry). e.1) (find has_name es) ≡ known_kind (kind_among (map as_named es) name)
  unfolding kind_among
  found [] k = refl
  found (e ∷ es) k = let p = both (not (eqb e.1 0)) (kinds_known es) k in by (has_name e) (unset (eqb e.1 0) p.0) (found es p.1)
    where
      by : (b : Bool) → eqb e.1 0 ≡ false
          → option_map (λ (f : Entry). f.1) (find has_name es) ≡ known_kind (kind_among (map as_named es) name)
          → option_map (λ (f : Entry). f.1) (cond b (Some e) (find has_name es)) ≡ known_kind (cond b e.1 (kind_among (map as_named es) name))
      by true z f = rw z
      by false z f = f

  -- by the entry that a search finds, and the kind that is read off it
  pub kind_told : (table : List Entry) → map as_named table ≡ commands → kinds_known table ≡ true
      → (o : Option (Bor Entry)) (r : Option ℕ) (Gives : Bor Entry → ℕ → Type 0)
      → option_map (λ (e : Bor Entry). e.now) o ≡ find has_name table → ((e : Bor Entry) (k : ℕ) → Gives e k → k ≡ e.now.1)
      → MatchOption o (r ≡ None) (λ e. IsSomeAnd r (Gives e)) → r ≡ known_kind (kind_named name)
  kind_told table t k o r Gives e g m =
      read o r m ∙ ap (option_map (λ (f : Entry). f.1)) e ∙ found table k ∙ ap (λ (cs : List Named). known_kind (kind_among cs name)) t
    where
      read : (o : Option (Bor Entry)) (r : Option ℕ) → MatchOption o (r ≡ None) (λ e. IsSomeAnd r (Gives e))
          → r ≡ option_map (λ (f : Entry). f.1) (option_map (λ (e : Bor Entry). e.now) o)
      read None r m = m
      read (Some e) (Some k) m = ap Some (g e k m)
      read (Some e) None m = absurd m
