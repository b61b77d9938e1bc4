-- What the library answers for a reply: a number, a verdict and the count of complete bits, in one word (ours).
-- Assumes nothing.
use Rattle.std.specs.Prelude.{List, ℕ, ◌+◌, ◌*◌}
use Rattle.replies.specs.Said.{Reply}
use Rattle.replies.specs.Replies.{ReplyResult, reply_of, reply_number, reply_verdict, reply_bits}

-- The count of bits stands above the verdict, which stands above the number; both are below 256.
abbrev pub reply_word : ℕ → Reply → ℕ
reply_word expected r = reply_bits expected r * 65536 + reply_verdict r * 256 + reply_number r

-- The word, and the buffer's later contents.
pub record ReplyWords : Type 0 where
  pub word : ℕ
  pub buffer : List ℕ

abbrev pub reply_words : ℕ → List ℕ → ReplyWords
reply_words word buffer = record { word = word; buffer = buffer }

abbrev pub words_of : ℕ → ReplyResult → ReplyWords
words_of expected r = reply_words (reply_word expected r.reply) r.buffer

unfoldable pub reply_words_of : List ℕ → ℕ → ℕ → ℕ → List ℕ → ReplyWords
reply_words_of input first count expected buffer = words_of expected (reply_of input first count expected buffer)
