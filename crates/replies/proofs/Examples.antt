-- Calls in numbers, computed.
-- Assumes nothing.
use mathlib.Core.Path.{refl}
use Rattle.replies.specs.Replies.{behind_header, reply_of}
use Rattle.replies.specs.Examples.{ReplyExamples}

pub reply_examples : ReplyExamples
unfolding behind_header reply_of
reply_examples = refl
