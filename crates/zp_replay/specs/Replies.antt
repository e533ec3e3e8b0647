-- What a worker's commands are answered, as text.
use Rattle.std.specs.Prelude.{ℕ, List, [], ◌∷◌, ◌++◌, codes}
use Rattle.std.specs.List.{flat_map, zip}
use Rattle.std.specs.Fmt.{decimal}
use Rattle.zp_model.specs.declared.counts.Counts.{Counts}
use Rattle.zp_model.specs.Refused.{refused_number}
use Rattle.zp_model.specs.Info.{counts_of, info_line}
use Rattle.zp_zone.specs.NamedZone.{NamedZone}
use Rattle.zp_office.specs.declared.reply.CommandReply.{CommandReply}
use Rattle.zp_office.specs.declared.reply.CommandReply.TheVariants.{Page, Block, Freed, Posted, Drained, Isolated, Released, Info, Refused}

abbrev pub line_feed : ℕ
line_feed = 10

-- what a worker got, or that it was done, in words; an info has lines of its own
abbrev pub reply_words : CommandReply → List ℕ
reply_words (Page p) = codes "page " ++ decimal p
reply_words (Block b) = codes "block " ++ (decimal b.page ++ (codes " order " ++ decimal b.order))
reply_words Freed = codes "freed"
reply_words Posted = codes "posted"
reply_words (Drained n) = codes "drained " ++ decimal n
reply_words Isolated = codes "isolated"
reply_words Released = codes "released"
reply_words (Refused r) = codes "refused " ++ decimal (refused_number r)
reply_words (Info counts) = []

-- whose reply it is, and the reply
abbrev pub reply_line : ℕ → CommandReply → List ℕ
reply_line worker q = decimal worker ++ (codes ": " ++ (reply_words q ++ line_feed ∷ []))

-- the info line of a zone
abbrev pub info_of : NamedZone → List ℕ
info_of z = info_line z.name z.plain.area.largest (counts_of z.plain.area.largest z.plain.area.free)

-- the info lines of these zones, with these counts
abbrev pub info_lines : List NamedZone → List Counts → List ℕ
info_lines zones counts = flat_map (λ (p : NamedZone × Counts). info_line p.0.name p.0.plain.area.largest p.1) (zip zones counts)

-- what the output says of a reply, where these are the zones
abbrev pub reply_text : List NamedZone → ℕ → CommandReply → List ℕ
reply_text zones worker (Info counts) = info_lines zones counts
reply_text zones worker q = reply_line worker q
