-- `kernelstill_reply` is the call that reads a reply, its answer in one word.
-- Assumes nothing.
use mathlib.Core.Path.{◌≡◌, ◌∙◌, refl, ap}
use Prim.Native.Nat.{ℕ, ◌+◌, ◌*◌, ◌≤◌}
use native.Mathlib.Omega.{arith}
use Rattle.replies.specs.declared.Reply.{Reply}
use Rattle.replies.specs.declared.Reply.TheVariants.{Whole, NoHeader, CutShort}
use Rattle.replies.specs.declared.ReplyError.{ReplyError}
use Rattle.replies.specs.declared.ReplyError.TheVariants.{WrongExpected, WrongBuffer, WrongRange}
use Rattle.replies.specs.Answers.{said, refused}
use Rattle.replies.specs.Replies.{most_bits, ReplyResult, reply_number, reply_bits}
use Rattle.replies.proofs.WithinExpected.{bits_most}
use Rattle.host_streams.specs.Reply.{reply_word, reply_words, words_of, reply_words_of}
use Rattle.host_streams.proofs.kernelstill_reply.Goals as goal
use Rattle.host_streams.proofs.kernelstill_reply.Goals.{After-bits}

-- What is said of a reply has no number, and a refusal nothing else.
no_number : (reply : Reply) → reply_number (said reply) ≡ 0
no_number Whole = refl
no_number NoHeader = refl
no_number (CutShort bits) = refl

only_number : (expected : ℕ) (error : ReplyError) → reply_word expected (refused error) ≡ reply_number (refused error)
only_number expected WrongExpected = refl
only_number expected WrongBuffer = refl
only_number expected WrongRange = refl

low : (c : After-bits) → c.bits.result ≤ most_bits
low c =
    let same = ap (λ (r : ReplyResult). reply_bits c.args.expected r.reply) c.in-Ok.ensures in
    rw (c.bits.ensures, same) (bits_most _ _ _ _ _)

pub overflow_mul-result : goal.overflow_mul-result
overflow_mul-result c = let most = low (goal.at.overflow_mul-result c).After-bits in omega arith

pub overflow_add-result : goal.overflow_add-result
overflow_add-result c = let most = low (goal.at.overflow_add-result c).After-bits in omega arith

pub returns-in-Ok : goal.returns-in-Ok
unfolding reply_words_of
returns-in-Ok c =
    let word : c.bits.result * 65536 + c.verdict.result * 256 ≡ reply_word c.args.expected (said c.in-Ok.reply) =
    omega (arith, c.bits.ensures, c.verdict.ensures, no_number c.in-Ok.reply) in
    ap (λ (w : ℕ). reply_words w c.read_reply.new.buffer) word ∙ ap (words_of c.args.expected) c.in-Ok.ensures

pub returns-in-Err : goal.returns-in-Err
unfolding reply_words_of
returns-in-Err c =
    let word : c.number.result ≡ reply_word c.args.expected (refused c.in-Err.error) =
    omega (arith, c.number.ensures, only_number c.args.expected c.in-Err.error) in
    ap (λ (w : ℕ). reply_words w c.read_reply.new.buffer) word ∙ ap (words_of c.args.expected) c.in-Err.ensures
