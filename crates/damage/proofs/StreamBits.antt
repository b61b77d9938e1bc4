-- Clean and damaged streams: that they are bits, how many, and their timing behind a command.
-- Assumes nothing.
use mathlib.Core.Path.{◌≡◌, ◌∙◌, refl, ap}
use mathlib.Core.Bool.{true, cond}
use mathlib.Core.List.{List, [], ◌∷◌}
use Prim.Native.Nat.{ℕ, zero, suc, ◌+◌, ◌-◌, ◌<◌}
use native.Mathlib.Omega.{arith}
use lib.Dec.{T, leb, ltb, lt→ltb, ltb→lt}
use lib.ListN.{length, length-append, length-replicate}
use borrow.Author.Tests.{ltb-true}
use Rattle.bits.proofs.Truth.{and_both, and_left, and_right, cond_case}
use Rattle.bits.proofs.BitRanges.{binary, binary_append}
use Rattle.clean_streams.specs.Commands.{Command, lv1, bcr, ecr, cal, sync, code_of, width_of}
use Rattle.clean_streams.specs.CleanStreams.{Item, zeros, zeros_between, item_bits, item_size, stream_bits, spaced, timed}
use Rattle.damage.specs.Hits.{HitCycles, inverted_at}
use Rattle.clean_streams.proofs.FiniteFacts.{each_at}

zeros_binary : (n : ℕ) → T (binary (zeros n))
zeros_binary zero = tt
zeros_binary (suc n) = zeros_binary n

code_binary : (c : Command) → T (binary (code_of c))
code_binary lv1 = tt
code_binary bcr = tt
code_binary ecr = tt
code_binary cal = tt
code_binary sync = tt

pub stream_binary : (is : List Item) (t : ℕ) → T (binary (stream_bits is t))
stream_binary [] t = zeros_binary t
stream_binary (i ∷ is) t =
    binary_append (item_bits i) (stream_bits is t)
    (binary_append (zeros i.ahead) (code_of i.command) (zeros_binary i.ahead) (code_binary i.command)) (stream_binary is t)

pub inverted_binary : (hits : HitCycles) (n : ℕ) (bits : List ℕ) → T (binary bits) → T (binary (inverted_at hits n bits))
inverted_binary hits n [] b = tt
inverted_binary hits n (x ∷ xs) b =
    let low = ltb→lt x 2 (and_left (ltb x 2) _ b) in
    let bit = cond_case (λ v. v < 2) (hits n) {x = 1 - x} {y = x} (λ _. omega arith) (λ _. low) in
    and_both (ltb (cond (hits n) (1 - x) x) 2) _ (lt→ltb (cond (hits n) (1 - x) x) 2 bit) (inverted_binary hits (suc n) xs (and_right (ltb x 2) _ b))

pub length_inverted : (hits : HitCycles) (n : ℕ) (bits : List ℕ) → length (inverted_at hits n bits) ≡ length bits
length_inverted hits n [] = refl
length_inverted hits n (x ∷ xs) = ap suc (length_inverted hits (suc n) xs)

pub item_length : (i : Item) → length (item_bits i) ≡ item_size i
item_length i = simp (length-append, length-replicate)

pub stream_length : (i : Item) (is : List Item) (t : ℕ) → length (stream_bits (i ∷ is) t) ≡ item_size i + length (stream_bits is t)
stream_length i is t = length-append (item_bits i) (stream_bits is t) ∙ ap (λ m. m + length (stream_bits is t)) (item_length i)

width_some : (c : Command) → ltb 0 (width_of c) ≡ true
width_some = each_at (λ c. ltb 0 (width_of c)) (λ c. true) refl

pub item_some : (i : Item) → 0 < item_size i
item_some i = let some = ltb-true 0 (width_of i.command) (width_some i.command) in omega arith

pub spaced_timed : (c : Command) (is : List Item) → T (spaced c is) → T (timed is)
spaced_timed c [] h = tt
spaced_timed c (i ∷ is) h = and_right (leb (zeros_between c i.command) i.ahead) _ h
