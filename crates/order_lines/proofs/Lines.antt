-- What a line means, by its words and fields as they are read.
-- Assumes nothing.
use mathlib.Core.Bool.{Bool, true, false, cond}
use mathlib.Core.List.{List, []}
use mathlib.Core.Path.{◌≡◌, ◌∙◌, refl, sym}
use Prim.Native.Nat.{ℕ, ◌+◌, ◌≤◌}
use native.Mathlib.Omega.{arith}
use lib.Dec.{eqb}
use lib.ListN.{length, get_or}
use Rattle.std.proofs.Common.{Option, Some, None, Result, Ok, Err, IfSome, IfOk, ok_or, subst}
use borrow.Author.Tests.{eq-eqb, ne_eqb, eqb-true, eqb-false}
use Rattle.orders.specs.Fields.{order}
use Rattle.text_frames.specs.declared.FrameRead.{FrameRead}
use Rattle.text_frames.specs.Frames.{frame_limit, lent_frame, FrameAs}
use Rattle.command_names.specs.Names.{kind_named, known_kind, field_count}
use Rattle.order_fields.specs.Fields.{address_field, value_field, frame_field, zeros_field}
use Rattle.order_lines.specs.declared.LineOrder.{LineOrder}
use Rattle.order_lines.specs.declared.LineFault.{LineFault}
use Rattle.order_lines.specs.declared.LineFault.TheVariants.{WrongField}
use Rattle.order_lines.specs.Lines.{LineMeaning, blank_line, wrong_line, wrong_field, unknown_name}
use Rattle.order_lines.specs.Lines.{other_count, order_line, count_fits, meant, fields_read, ReadAs}
use Rattle.order_lines.specs.Lines.{fields_meaning, words_meaning}

-- ---- the fields

-- A line that lends nothing.
pub read_nothing : {meaning : LineMeaning} {buffer : List ℕ} (r : Result (Option LineOrder) LineFault) → IfOk r (λ o. IfSome o (λ x. x.bytes ≡ 0))
    → meant r buffer ≡ meaning → length buffer ≡ frame_limit → ReadAs meaning buffer r
read_nothing (Ok None) b e long = record { same = e; within = tt; long = long }
read_nothing (Ok (Some r)) b e long = record { same = e; within = omega (arith, b); long = long }
read_nothing (Err f) b e long = record { same = e; within = tt; long = long }

module _ (kind : ℕ) (words : List (List ℕ)) where
  pub no_zeros : None ≡ zeros_field (field_count kind) words → wrong_line wrong_field ≡ fields_meaning kind words
  unfolding fields_meaning
  no_zeros e = rw (← e)

  pub no_address : (ahead : ℕ) → Some ahead ≡ zeros_field (field_count kind) words → None ≡ address_field kind words
      → wrong_line wrong_field ≡ fields_meaning kind words
  unfolding fields_meaning
  no_address ahead z e = rw (← z, ← e)

  module _ (ahead address : ℕ) (z : Some ahead ≡ zeros_field (field_count kind) words) (a : Some address ≡ address_field kind words) where
    pub no_value : None ≡ value_field kind words → wrong_line wrong_field ≡ fields_meaning kind words
    unfolding fields_meaning
    no_value e = rw (← z, ← a, ← e)

    module _ (value : ℕ) (v : Some value ≡ value_field kind words) (f : Option FrameRead) (buffer : List ℕ)
        (g : FrameAs f buffer (frame_field kind words)) (long : length buffer ≡ frame_limit) where
      as_read : order_line kind (Some ahead) (Some address) (Some value) (lent_frame f buffer) ≡ fields_meaning kind words
      unfolding fields_meaning
      as_read = λ i. order_line kind (z i) (a i) (v i) (g.same i)

      pub no_frame_read : f ≡ None → ReadAs (fields_meaning kind words) buffer (Err WrongField)
      no_frame_read e = record { same = rw e at as_read; within = tt; long = long }

      pub all_read : (r : FrameRead) → f ≡ Some r
          → ReadAs (fields_meaning kind words) buffer (Ok (Some record { order = order kind ahead address value 0 r.bits; bytes = r.bytes }))
      all_read r e = record {
        same = rw e at as_read;
        within =
            let P : Option FrameRead → Type 0 = λ o. IfSome o (λ x. x.bytes ≤ length buffer) in
            let w : r.bytes ≤ length buffer = subst P e g.within in omega arith;
        long = long;
      }

-- ---- the words

module _ (words : List (List ℕ)) where
  pub no_words : length words ≡ 0 → blank_line ≡ words_meaning words
  unfolding words_meaning
  no_words e = simp (eq-eqb (length words) 0 e)

  module _ (some : length words ≡ 0 → ⊥) (kind : ℕ) (k : kind ≡ kind_named (get_or words 0 [])) where
    pub no_name : kind ≡ 0 → wrong_line unknown_name ≡ words_meaning words
    unfolding words_meaning
    no_name e = rw (← k) (simp (ne_eqb (length words) 0 some, eq-eqb kind 0 e))

    module _ (known : kind ≡ 0 → ⊥) where
      by_count : cond (count_fits (field_count kind) (length words)) (fields_meaning kind words) (wrong_line other_count) ≡ words_meaning words
      unfolding words_meaning
      by_count = rw (← k) (simp (ne_eqb (length words) 0 some, ne_eqb kind 0 known))

      pub other_count_lem : count_fits (field_count kind) (length words) ≡ false → wrong_line other_count ≡ words_meaning words
      other_count_lem e = rw e at by_count

      pub fit_count : count_fits (field_count kind) (length words) ≡ true → fields_meaning kind words ≡ words_meaning words
      fit_count e = rw e at by_count

-- The test of the count.
pub counts_differ : (fields count : ℕ) → (count ≡ 1 + fields → ⊥) → (count ≡ 2 + fields → ⊥) → count_fits fields count ≡ false
counts_differ fields count a b = simp (ne_eqb count (1 + fields) a, ne_eqb count (2 + fields) b)

pub count_shorter : (fields count : ℕ) → count ≡ 1 + fields → count_fits fields count ≡ true
count_shorter fields count e = simp (eq-eqb count (1 + fields) e)

pub count_longer : (fields count : ℕ) → count ≡ 2 + fields → count_fits fields count ≡ true
count_longer fields count e = let n : count ≡ 1 + fields → ⊥ = λ f. omega (arith, e, f) in simp (ne_eqb count (1 + fields) n, eq-eqb count (2 + fields) e)

-- A kind, if it is one.
pub kind_none : (k : ℕ) → None ≡ known_kind k → k ≡ 0
kind_none k e = by (eqb k 0) refl e
  where
    by : (b : Bool) → eqb k 0 ≡ b → None ≡ cond b None (Some k) → k ≡ 0
    by true z e = eqb-true k 0 z
    by false z e = cc

pub kind_some : (k n : ℕ) → Some n ≡ known_kind k → (n ≡ k) × (n ≡ 0 → ⊥)
kind_some k n e = by (eqb k 0) refl e
  where
    by : (b : Bool) → eqb k 0 ≡ b → Some n ≡ cond b None (Some k) → (n ≡ k) × (n ≡ 0 → ⊥)
    by true z e = cc
    by false z e = let same : n ≡ k = cc in (same, λ n0. eqb-false k 0 z (sym same ∙ n0))

-- The fault that a missing value gives.
pub fault_told : {A : Type 0} (o : Option A) (d e : LineFault) → ◌≡◌ {A = Result A LineFault} (Err e) (ok_or o d) → o ≡ None → e ≡ d
fault_told None d e v n = cc
fault_told (Some x) d e v n = cc

-- The fields of a line whose count of words fits.
pub read_on : {meaning told : LineMeaning} {buffer : List ℕ} (o r : Option LineOrder) → o ≡ r → ReadAs told buffer (fields_read o) → told ≡ meaning
    → ReadAs meaning buffer (fields_read r)
read_on {meaning} {told} {buffer} o r e a m =
    let P : Option LineOrder → Type 0 = λ x. ReadAs told buffer (fields_read x) in
    let b : ReadAs told buffer (fields_read r) = subst P e a in
    record { same = b.same ∙ m; within = b.within; long = b.long }
