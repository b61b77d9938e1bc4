-- Lists of orders in words, with all that composing answers and writes, in numbers (document 02, F-2). The plan is the default one.
-- Assumes nothing.
use Rattle.std.specs.Prelude.{◌≡◌, List, [], ◌∷◌, ◌++◌, map, ℕ, replicate}
use Rattle.plans.specs.Plan.{default_plan}
use Rattle.orders.specs.Fields.{orders_in}
use Rattle.orders.specs.Composing.{ComposeResult, compose_of}

-- The orders' words and the frames' bytes; the number, the order's number, the count of bits, and an output of twelve bytes, which held EE.
pub record ComposeRow : Type 0 where
  pub words : List ℕ
  pub frames : List ℕ
  pub number : ℕ
  pub order : ℕ
  pub bits : ℕ
  pub output : List ℕ

-- An order's six words: kind, zeros, address, value, frame, bits.
abbrev one : ℕ → ℕ → ℕ → ℕ → ℕ → ℕ → List ℕ
one kind zeros address value frame bits = kind ∷ zeros ∷ address ∷ value ∷ frame ∷ bits ∷ []

-- A command without fields, and WrRegister to CNT.
abbrev plain : ℕ → ℕ → List ℕ
plain kind zeros = one kind zeros 0 0 0 0

abbrev set_cnt : ℕ → List ℕ
set_cnt value = one 0x20 0 5 value 0 0

abbrev blank : List ℕ
blank = replicate 12 0xEE

abbrev writes : List ℕ → List ℕ → ℕ → List ℕ → ComposeRow
writes words frames bits output = record { words = words; frames = frames; number = 0; order = 0; bits = bits; output = output }

abbrev refuses : List ℕ → List ℕ → ℕ → ℕ → ComposeRow
refuses words frames number order = record { words = words; frames = frames; number = number; order = order; bits = 0; output = blank }

abbrev pub compose_table : List ComposeRow
compose_table =
    -- no orders; LV1; two zeros and a LV1; each Fast with the zeros that the one before it asks
    writes [] [] 0 blank
    ∷ writes (plain 0x01 0) [] 5 (0xE8 ∷ replicate 11 0xEE)
    ∷ writes (plain 0x01 2) [] 7 (0x3A ∷ replicate 11 0xEE)
    ∷ writes (plain 0x11 0 ++ plain 0x12 2 ++ plain 0x14 1 ++ plain 0x18 0 ++ plain 0x01 4) [] 48
    (0xB0 ∷ 0x96 ∷ 0x25 ∷ 0x92 ∷ 0xD0 ∷ 0x1D ∷ replicate 6 0xEE)
    -- WrRegister 5 0082; RdRegister 9, WrFifo, RdFifo; what is not used is not looked at
    ∷ writes (set_cnt 0x0082) [] 33 (0xB5 ∷ 0x82 ∷ 0x80 ∷ 0x41 ∷ 0x00 ∷ replicate 7 0xEE)
    ∷ writes (one 0x21 0 9 99999 77 88) [] 33 (0xB5 ∷ 0x8C ∷ 0x80 ∷ 0x00 ∷ 0x00 ∷ replicate 7 0xEE)
    ∷ writes (one 0x22 0 99 0x5555555 0 0) [] 44 (0xB5 ∷ 0x90 ∷ 0x55 ∷ 0x55 ∷ 0x55 ∷ 0x50 ∷ replicate 6 0xEE)
    ∷ writes (one 0x23 0 15 0 0 0) [] 44 (0xB5 ∷ 0x9F ∷ 0x80 ∷ 0x00 ∷ 0x00 ∷ 0x00 ∷ replicate 6 0xEE)
    -- EnDataTake, GlobalResetMCC, GlobalResetFE with SyncW 9
    ∷ writes (plain 0x28 0 ++ plain 0x29 0) [] 34 (0xB5 ∷ 0xC0 ∷ 0x5A ∷ 0xE4 ∷ 0x00 ∷ replicate 7 0xEE)
    ∷ writes (one 0x2A 0 0 9 0 0) [] 21 (0xB5 ∷ 0xD0 ∷ 0x48 ∷ replicate 9 0xEE)
    -- CNT 0: frames of no bits, wherever they stand; CNT 0001: WrReceiver of eight bits; CNT 0008: one front-end bit, eight times
    ∷ writes (one 0x24 0 0 0 99 0) [] 17 (0xB5 ∷ 0xA0 ∷ 0x00 ∷ replicate 9 0xEE)
    ∷ writes (set_cnt 1 ++ one 0x26 0 0 0 1 8) (0xFF ∷ 0xA5 ∷ []) 58
    (0xB5 ∷ 0x82 ∷ 0x80 ∷ 0x00 ∷ 0xDA ∷ 0xD8 ∷ 0x29 ∷ 0x40 ∷ replicate 4 0xEE)
    ∷ writes (set_cnt 8 ++ one 0x25 0 0 0 0 1) (0x80 ∷ []) 58
    (0xB5 ∷ 0x82 ∷ 0x80 ∷ 0x04 ∷ 0x5A ∷ 0xD4 ∷ 0x3F ∷ 0xC0 ∷ replicate 4 0xEE)
    -- unknown commands: kind 0, a bad Fast, a Field 3 that names none, a bad Slow, a kind above a byte, an order that is cut short
    ∷ refuses (plain 0x00 0) [] 9 0
    ∷ refuses (plain 0x01 0 ++ plain 0x1F 0) [] 9 1
    ∷ refuses (plain 0x27 0) [] 9 0
    ∷ refuses (plain 0x2F 0) [] 9 0
    ∷ refuses (plain 0x101 0) [] 9 0
    ∷ refuses (plain 0x01 0 ++ (0x01 ∷ 0 ∷ 0 ∷ 0 ∷ 0 ∷ [])) [] 9 1
    -- used fields of the wrong size
    ∷ refuses (one 0x20 0 16 0 0 0) [] 9 0
    ∷ refuses (one 0x20 0 5 65536 0 0) [] 9 0
    ∷ refuses (one 0x21 0 16 0 0 0) [] 9 0
    ∷ refuses (one 0x22 0 0 134217728 0 0) [] 9 0
    ∷ refuses (one 0x23 0 16 0 0 0) [] 9 0
    ∷ refuses (one 0x2A 0 0 16 0 0) [] 9 0
    -- another count than CNT's, also after GlobalResetMCC; fewer bits lent
    ∷ refuses (one 0x26 0 0 0 0 8) (0 ∷ []) 9 0
    ∷ refuses (set_cnt 1 ++ one 0x26 0 0 0 0 16) (0 ∷ 0 ∷ []) 9 1
    ∷ refuses (set_cnt 8 ++ one 0x24 0 0 0 0 8) (0 ∷ []) 9 1
    ∷ refuses (set_cnt 1 ++ plain 0x29 0 ++ one 0x26 0 0 0 0 8) (0 ∷ []) 9 2
    ∷ refuses (set_cnt 1 ++ one 0x26 0 0 0 1 8) (0 ∷ []) 9 1
    -- too few zeros; at one order 9 goes before 10, and an earlier order before a later one
    ∷ refuses (plain 0x11 0 ++ plain 0x11 1) [] 10 1
    ∷ refuses (plain 0x12 0 ++ plain 0x28 0) [] 10 1
    ∷ refuses (plain 0x18 0 ++ plain 0x01 3) [] 10 1
    ∷ refuses (plain 0x11 0 ++ plain 0x1F 1) [] 9 1
    ∷ refuses (plain 0x12 0 ++ plain 0x14 0 ++ plain 0x00 0) [] 10 1
    -- 96 bits into twelve bytes, and 97; 11 comes last of all
    ∷ writes (plain 0x01 91) [] 96 (replicate 11 0 ++ (0x1D ∷ []))
    ∷ refuses (plain 0x01 92) [] 11 0
    ∷ refuses (plain 0x01 92 ++ plain 0x00 0) [] 9 1
    ∷ []

abbrev result : ComposeRow → ComposeResult
result r = compose_of default_plan (orders_in r.frames r.words) blank

-- Each row's list is answered and written so.
pub record ComposeExamples : Type 0 where
  pub numbers : map (λ r. (result r).answer.number) compose_table ≡ map (λ r. r.number) compose_table
  pub orders : map (λ r. (result r).answer.order) compose_table ≡ map (λ r. r.order) compose_table
  pub counts : map (λ r. (result r).answer.bits) compose_table ≡ map (λ r. r.bits) compose_table
  pub outputs : map (λ r. (result r).output) compose_table ≡ map (λ r. r.output) compose_table
