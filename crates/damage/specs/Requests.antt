-- What the commands of a clean stream ask of the controller (document 01, "Hunting").
-- Assumes nothing.
use Rattle.recogniser.specs.declared.Request.{Request}
use Rattle.recogniser.specs.declared.Request.TheVariants.{Lv1, Fast}
use Rattle.clean_streams.specs.Commands.{Command, lv1, bcr, ecr, cal, sync}

-- What a whole command asks for at its last bit: the LV1 is exact.
abbrev pub request_of : Command → Request
request_of lv1 = Lv1 0
request_of bcr = Fast 0b0001
request_of ecr = Fast 0b0010
request_of cal = Fast 0b0100
request_of sync = Fast 0b1000
