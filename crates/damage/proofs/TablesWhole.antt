-- The damage table is whole: each bit of a command has one row.
-- Assumes nothing.
use mathlib.Core.Path.{◌≡◌, refl}
use mathlib.Core.List.{map}
use Prim.Native.Nat.{suc}
use lib.Dec.{eqb}
use Rattle.bits.proofs.Below.{below}
use Rattle.clean_streams.specs.Commands.{Command, fasts, width_of}
use Rattle.damage.specs.Table.{own_bit, zero_ahead, table, hits_fast, rows_for}
use Rattle.clean_streams.proofs.FiniteFacts.{each_at}

-- every bit of every command has one row of the damage table, and so has each of the two zeros ahead of a Fast
pub rows : (c : Command) → below (width_of c) (λ k. rows_for table c (own_bit (suc k))) ≡ below (width_of c) (λ k. 1)
rows = each_at (λ c. below (width_of c) (λ k. rows_for table c (own_bit (suc k)))) (λ c. below (width_of c) (λ k. 1)) refl

pub zero_rows : map (λ c. below 2 (λ d. rows_for table c (zero_ahead (suc d)))) fasts ≡ map (λ c. below 2 (λ d. 1)) fasts
zero_rows = refl

-- of the eight zeros ahead of a command, those that hit it are those that have a row
pub hit_rows : (c : Command) → below 8 (λ d. hits_fast c (suc d)) ≡ below 8 (λ d. eqb (rows_for table c (zero_ahead (suc d))) 1)
hit_rows = each_at (λ c. below 8 (λ d. hits_fast c (suc d))) (λ c. below 8 (λ d. eqb (rows_for table c (zero_ahead (suc d))) 1)) refl
