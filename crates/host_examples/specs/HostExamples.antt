-- The worked examples of openings, of the library for hosts and of texts: the definitions give every row of every table, and the tables have this many
-- rows.
-- Assumes nothing.
use Rattle.worked_examples.specs.Table.{Table}
use Rattle.host_examples.specs.OpeningTable as openings
use Rattle.host_examples.specs.HostTable as hosts
use Rattle.host_examples.specs.TextTable as texts

-- Openings: the plans and cycles that are accepted, and those turned away.
pub record OpeningExamples : Type 0 where
  pub openings_give : Table openings.opening_shown openings.opening_expected 18 openings.table

-- The library for hosts: taking calls on an image, the image word by word, and buffers of other lengths.
pub record HostExamples : Type 0 where
  pub hosts_give : Table hosts.host_shown hosts.host_expected 22 hosts.table
  pub image : hosts.HostImage
  pub buffers : hosts.HostBuffers

-- The texts: the lines printed, and the hexadecimal lines read.
pub record TextExamples : Type 0 where
  pub printed : Table texts.text_shown texts.text_expected 12 texts.table
  pub read : Table texts.hex_shown texts.hex_expected 19 texts.hex_table
