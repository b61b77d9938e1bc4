-- Inputs of `reply`, character for character, with all that it prints (document 02, F-12).
-- Assumes nothing.
use Rattle.std.specs.Prelude.{◌≡◌, List, [], ℕ, replicate}
use Rattle.output.specs.Ascii.{ascii}
use Rattle.reply_reports.specs.Report.{ReplyRead, reply_read_of, text_of, message_of}

-- With two bytes of buffer for at most 16 data bits.
abbrev pub read_text : ℕ → List ℕ → ReplyRead
read_text expected characters = reply_read_of expected (replicate 2 0) characters

abbrev pub prints : ℕ → List ℕ → List ℕ
prints expected characters = text_of (read_text expected characters)

abbrev pub says : ℕ → List ℕ → List ℕ
says expected characters = message_of (read_text expected characters).report

-- 11101 and the bits 1, 0: whole, over two lines too, and with a line behind it that would be refused; the end of a line cuts it short, or leaves no bit;
-- no header; a refused line ahead of the last bit, or with it.
pub record ReportExamples : Type 0 where
  pub whole : prints 2 (ascii "EFF800\n") ≡ ascii "whole 0002\n>80\n"
  pub two_lines : prints 2 (ascii "EF\nF800") ≡ ascii "whole 0002\n>80\n"
  pub whole_first : prints 2 (ascii "EFF800\n0G\n") ≡ ascii "whole 0002\n>80\n"
  pub cut_short : prints 9 (ascii "EFF800\n") ≡ ascii "cut short 0002\n>80\n"
  pub no_bit : prints 9 (ascii "EF\n") ≡ ascii "cut short 0000\n"
  pub no_header : prints 2 (ascii "00\n") ≡ ascii "no header\n"
  pub refused_first : prints 2 (ascii "EFF8\n0G\n") ≡ ascii "!07 00000002\n"
  pub refused_inside : prints 2 (ascii "EFF800G\n") ≡ ascii "!07 00000001\n"
  pub whole_said : says 2 (ascii "EFF800\n") ≡ []
  pub cut_said : says 9 (ascii "EFF800\n") ≡ ascii "cut short: 2 of 9 bits\n"
  pub missing_said : says 2 (ascii "00\n") ≡ ascii "no header 11101\n"
