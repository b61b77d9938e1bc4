-- What a trace records: of a clean one the paper's records, of one with inverted bits those of the table.
-- Assumes nothing.
use mathlib.Core.Path.{◌≡◌, ◌∙◌, refl, sym, ap}
use mathlib.Core.Bool.{Bool, true, ◌&&◌}
use mathlib.Core.List.{List, [], ◌∷◌, ◌++◌, append_assoc}
use Prim.Native.Nat.{ℕ, zero, suc, ◌+◌, ◌-◌, ◌≤◌}
use native.Mathlib.Omega.{arith}
use lib.Dec.{leb, T, leb→le}
use lib.ListN.{length}
use Rattle.bits.proofs.Truth.{and_left, and_right}
use Rattle.recogniser.specs.declared.Request.{Request}
use Rattle.records.specs.declared.Record.{Record}
use Rattle.clean_streams.specs.Commands.{Command, width_of}
use Rattle.clean_streams.specs.CleanStreams.{Item, item_size}
use Rattle.damage.specs.Table.{Replacement, nothing, at, itself}
use Rattle.damage.specs.Hits.{HitCycles, stands_in}
use Rattle.damage.specs.Traces.{quiet, spread, clean_trace, hit_trace}
use Rattle.damage.specs.Records.{Ahead, Recording, silence, followed_by, performed, request_records, ahead_after}
use Rattle.damage.specs.Records.{item_records, item_ahead, clean_records, clean_ahead}
use Rattle.damage.specs.Records.{replacement_records, replacement_ahead, hit_after, hit_records, hit_ahead}
use Rattle.damage.proofs.Replacements.{Passes, own_passes}
use Rattle.damage.proofs.HitItems.{stands_passes}

suc_shift : (n m : ℕ) → suc n + m ≡ n + suc m
suc_shift n m = omega arith

followed_twice : (xs ys : List Record) (r : Recording) → followed_by xs (followed_by ys r) ≡ followed_by (xs ++ ys) r
followed_twice xs ys r = ap (λ l. record { records = l; after = r.after }) (sym (append_assoc xs ys r.records))

pub performed_append : (sent : Bool) (a : Ahead) (n : ℕ) (es fs : List Request)
    → performed sent a n (es ++ fs) ≡ followed_by (performed sent a n es).records (performed sent (performed sent a n es).after (n + length es) fs)
unfolding performed
performed_append sent a n [] fs = ap (λ m. performed sent a m fs) (omega arith)
performed_append sent a n (e ∷ es) fs =
    let a₁ : Ahead = ahead_after a n e in
    let p : Recording = performed sent a₁ (suc n) es in
    let records : List Record = request_records sent a n e in
    ap (followed_by records) (performed_append sent a₁ (suc n) es fs)
    ∙ ap (λ m. followed_by records (followed_by p.records (performed sent p.after m fs))) (suc_shift n (length es))
    ∙ followed_twice records p.records _

performed_quiet : (sent : Bool) (a : Ahead) (n t : ℕ) (es : List Request) → performed sent a n (quiet t ++ es) ≡ performed sent a (n + t) es
unfolding performed
performed_quiet sent a n zero es = ap (λ m. performed sent a m es) (omega arith)
performed_quiet sent a n (suc t) es = performed_quiet sent a (suc n) t es ∙ ap (λ m. performed sent a m es) (suc_shift n t)

performed_silence : (sent : Bool) (a : Ahead) (n t : ℕ) → performed sent a n (quiet t) ≡ silence a
unfolding performed
performed_silence sent a n zero = refl
performed_silence sent a n (suc t) = performed_silence sent a (suc n) t

-- what stands in a command's place lies within its bits
abbrev within : ℕ → Replacement → Bool
within width nothing = true
within width (at p e) = leb 1 p && leb p width

module _ (sent : Bool) (a : Ahead) where
  performed_spread : (n width : ℕ) (x : Replacement) (es : List Request) → T (within width x)
      → performed sent a n (spread width x ++ es) ≡ followed_by (replacement_records sent a n x) (performed sent (replacement_ahead a n x) (n + width) es)
  unfolding performed
  performed_spread n width nothing es h = performed_quiet sent a n width es
  performed_spread n width (at p e) es h =
      let low : 1 ≤ p = leb→le 1 p (and_left (leb 1 p) (leb p width) h) in
      let high : p ≤ width = leb→le p width (and_right (leb 1 p) (leb p width) h) in
      let z : suc (n + (p - 1)) + (width - p) ≡ n + width = omega arith in
      let a₁ : Ahead = ahead_after a (n + (p - 1)) e in
      rw (append_assoc (quiet (p - 1)) (e ∷ quiet (width - p)) es)
      (performed_quiet sent a n (p - 1) (e ∷ (quiet (width - p) ++ es))
      ∙ ap (followed_by (request_records sent a (n + (p - 1)) e))
      (performed_quiet sent a₁ (suc (n + (p - 1))) (width - p) es ∙ ap (λ m. performed sent a₁ m es) z))

  -- an item in whose command's place x stands
  performed_item : (n t width : ℕ) (x : Replacement) (es : List Request) → T (within width x)
      → performed sent a n ((quiet t ++ spread width x) ++ es)
      ≡ followed_by (replacement_records sent a (n + t) x) (performed sent (replacement_ahead a (n + t) x) (n + (t + width)) es)
  performed_item n t width x es h =
      let z : n + t + width ≡ n + (t + width) = omega arith in
      rw (append_assoc (quiet t) (spread width x) es)
      (performed_quiet sent a n t (spread width x ++ es) ∙ performed_spread (n + t) width x es h
      ∙ ap (λ m. followed_by (replacement_records sent a (n + t) x) (performed sent (replacement_ahead a (n + t) x) m es)) z)

-- computed for what stands in a command's place
abbrev within_at : Command → Replacement → Bool
within_at d x = within (width_of d) x

within_passes : Passes within_at
within_passes = record { own = refl; hit = refl; near = refl }

itself_within : (d : Command) → T (within (width_of d) (itself d))
itself_within = own_passes within_at within_passes

stands_within : (hits : HitCycles) (n : ℕ) (i : Item) → T (within (width_of i.command) (stands_in hits n i))
stands_within = stands_passes within_at within_passes

pub performed_clean : (sent : Bool) (a : Ahead) (n : ℕ) (is : List Item) (t : ℕ)
    → performed sent a n (clean_trace is t) ≡ record { records = clean_records sent a n is; after = clean_ahead a n is }
performed_clean sent a n [] t = performed_silence sent a n t
performed_clean sent a n (i ∷ is) t =
    performed_item sent a n i.ahead (width_of i.command) (itself i.command) (clean_trace is t) (itself_within i.command)
    ∙ ap (followed_by (item_records sent a n i)) (performed_clean sent (item_ahead a n i) (n + item_size i) is t)

pub performed_hit : (sent : Bool) (hits : HitCycles) (a : Ahead) (n : ℕ) (is : List Item) (t : ℕ)
    → performed sent a n (hit_trace hits n is t) ≡ record { records = hit_records sent hits a n is; after = hit_ahead hits a n is }
performed_hit sent hits a n [] t = performed_silence sent a n t
performed_hit sent hits a n (i ∷ is) t =
    let x : Replacement = stands_in hits n i in
    performed_item sent a n i.ahead (width_of i.command) x (hit_trace hits (n + item_size i) is t) (stands_within hits n i)
    ∙ ap (followed_by (replacement_records sent a (n + i.ahead) x)) (performed_hit sent hits (hit_after hits a n i) (n + item_size i) is t)
