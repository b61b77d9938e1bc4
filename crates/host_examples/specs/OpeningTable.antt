-- Openings, numbers 1 and 2, and the start state as words (document 01, "The register plan" and the refusal table).
-- Assumes nothing.
use Rattle.std.specs.Prelude.{List, [], ◌∷◌, ◌++◌, ℕ, replicate}
use Rattle.host_opening.specs.Open.{open_result_of}

-- A row: mask, the addresses of CSR, FEEN and CNT, and the cycle; the refusal number; and the image that is written over 70 words of 9.
pub record OpeningRow : Type 0 where
  pub mask : ℕ
  pub csr : ℕ
  pub feen : ℕ
  pub cnt : ℕ
  pub cycle : ℕ
  pub number : ℕ
  pub image : List ℕ

-- "An accepted opening": layout 3, the plan, the next cycle, and the base, word 16, at the opening cycle; all else is 0.
abbrev opens : ℕ → ℕ → ℕ → ℕ → ℕ → OpeningRow
opens mask csr feen cnt cycle = record {
  mask = mask;
  csr = csr;
  feen = feen;
  cnt = cnt;
  cycle = cycle;
  number = 0;
  image = 3 ∷ mask ∷ csr ∷ feen ∷ cnt ∷ cycle ∷ (replicate 10 0 ++ (cycle ∷ replicate 53 0));
}

-- "A refused opening gives the default start state at cycle 0": mask 07FF, CSR 0, FEEN 2, CNT 5.
abbrev rejects : ℕ → ℕ → ℕ → ℕ → ℕ → ℕ → OpeningRow
rejects number mask csr feen cnt cycle = record {
  mask = mask;
  csr = csr;
  feen = feen;
  cnt = cnt;
  cycle = cycle;
  number = number;
  image = 3 ∷ 0x07FF ∷ 0 ∷ 2 ∷ 5 ∷ replicate 65 0;
}

abbrev pub opening_shown : OpeningRow → ℕ × List ℕ
opening_shown r =
    let opened = open_result_of r.mask r.csr r.feen r.cnt r.cycle (replicate 70 9) in
    (opened.number, opened.image)

abbrev pub opening_expected : OpeningRow → ℕ × List ℕ
opening_expected r = (r.number, r.image)

abbrev pub table : List OpeningRow
table =
    -- the default plan, at the first cycle and at the last
    opens 0x07FF 0 2 5 0
    ∷ opens 0x07FF 0 2 5 0xFFFFFFFFFFFF
    -- 007F by name (document 02, F-9)
    ∷ opens 0x007F 0 2 5 0
    -- other plans, in any order of the three
    ∷ opens 0x8421 15 5 10 0x123456
    ∷ opens 0xFFFF 15 14 13 1
    ∷ opens 0x0007 2 1 0 1
    -- number 1: "not three different ones in the mask"
    ∷ rejects 1 0x007F 2 2 5 0
    ∷ rejects 1 0x007F 5 2 5 0
    ∷ rejects 1 0x007F 0 5 5 0
    ∷ rejects 1 0x007E 0 2 5 0
    ∷ rejects 1 0x007B 0 2 5 0
    ∷ rejects 1 0x005F 0 2 5 0
    ∷ rejects 1 0x0000 0 2 5 0
    -- addresses have four bits and a mask sixteen
    ∷ rejects 1 0xFFFF 16 2 5 0
    ∷ rejects 1 0xFFFF 0 2 256 0
    ∷ rejects 1 0x1007F 0 2 5 0
    -- number 2: "the opening cycle is 2^48 or more"; "the lowest number wins"
    ∷ rejects 2 0x007F 0 2 5 0x1000000000000
    ∷ rejects 1 0x007F 2 2 5 0x1000000000000
    ∷ []
