-- What a call answers, as the definition says it.
-- Assumes nothing.
use Rattle.std.specs.Prelude.{Result, Ok, Err}
use Rattle.replies.specs.declared.Reply.{Reply as Answer}
use Rattle.replies.specs.declared.Reply.TheVariants as answer
use Rattle.replies.specs.declared.ReplyError.{ReplyError}
use Rattle.replies.specs.declared.ReplyError.TheVariants as error
use Rattle.replies.specs.Said.{Reply, Whole, NoHeader, CutShort, WrongExpected, WrongBuffer, WrongRange}

abbrev pub said : Answer → Reply
said answer.Whole = Whole
said answer.NoHeader = NoHeader
said (answer.CutShort bits) = CutShort bits

abbrev pub refused : ReplyError → Reply
refused error.WrongExpected = WrongExpected
refused error.WrongBuffer = WrongBuffer
refused error.WrongRange = WrongRange

abbrev pub answered : Result Answer ReplyError → Reply
answered (Ok reply) = said reply
answered (Err error) = refused error
