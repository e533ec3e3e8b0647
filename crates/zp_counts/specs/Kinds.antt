-- What contracts see of a board of each kind, of its publisher and of its readers.
use Rattle.std.specs.Prelude.{true, false, length, map}
use Rattle.atomic_table.specs.Seated.{TableId}
use Rattle.zp_counts.specs.CountBoards.{BoardState, CountTie, CountsPublished, CountsSeen}
use Rattle.zp_counts.specs.Packing.{packed_in, paired_in}
use Rattle.zp_counts.specs.declared.kinds.BoardKind.{BoardKind}
use Rattle.zp_counts.specs.declared.kinds.BoardKind.TheVariants as board
use Rattle.zp_counts.specs.declared.kinds.PublisherKind.{PublisherKind}
use Rattle.zp_counts.specs.declared.kinds.PublisherKind.TheVariants as publisher
use Rattle.zp_counts.specs.declared.kinds.ReaderKind.{ReaderKind}
use Rattle.zp_counts.specs.declared.kinds.ReaderKind.TheVariants as reader

-- a board with room for each of its counts, one that turns and has packed words, and one that turns and has words for any counts
abbrev pub fixed_tie : TableId → CountTie
fixed_tie table = record { table = table; turns = false; packed = false }

abbrev pub turning_tie : TableId → CountTie
turning_tie table = record { table = table; turns = true; packed = true }

abbrev pub wide_tie : TableId → CountTie
wide_tie table = record { table = table; turns = true; packed = false }

abbrev pub board_state : BoardKind → BoardState
board_state (board.Fixed b) = record { tie = fixed_tie b.tie; capacity = b.capacity }
board_state (board.Turning b capacity) = record { tie = turning_tie b.tie; capacity = capacity }
board_state (board.Wide b capacity) = record { tie = wide_tie b.tie; capacity = capacity }

abbrev pub published_counts : PublisherKind → CountsPublished
published_counts (publisher.Fixed p) = record { tie = fixed_tie p.tie; published = map paired_in p.published }
published_counts (publisher.Turning p) = record { tie = turning_tie p.tie; published = map packed_in p.published }
published_counts (publisher.Wide p) = record { tie = wide_tie p.tie; published = map paired_in p.published }

-- a reader of a board that does not turn knows of what it has seen, and of no more
abbrev pub seen_counts : ReaderKind → CountsSeen
seen_counts (reader.Fixed r) = record { tie = fixed_tie r.tie; seen = map paired_in r.seen; known = length r.seen; looks = r.looks }
seen_counts (reader.Turning r) = record { tie = turning_tie r.tie; seen = map packed_in r.seen; known = r.known; looks = r.looks }
seen_counts (reader.Wide r) = record { tie = wide_tie r.tie; seen = map paired_in r.seen; known = r.known; looks = r.looks }
