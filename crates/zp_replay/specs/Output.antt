-- What a good trace writes: the replies to its commands, the zones' totals, and their info lines; and what a bad one writes.
use Rattle.std.specs.Prelude.{ℕ, List, [], ◌∷◌, ◌++◌, length, take, codes, slice_get, slice_index_or, Option, None, Some}
use Rattle.std.specs.List.{flat_map, range_with_len}
use Rattle.std.specs.Fmt.{decimal}
use Rattle.zp_model.specs.declared.mark.Level.{Level}
use Rattle.zp_model.specs.declared.mark.Level.TheVariants.{High, Low, Min, Short}
use Rattle.zp_model.specs.Mark.{level_of}
use Rattle.zp_model.specs.Zone.{pages_of}
use Rattle.zp_trace.specs.declared.trace.Trace.{Trace}
use Rattle.zp_zone.specs.NamedZone.{NamedZone}
use Rattle.zp_share.specs.declared.gathering.Totals.{Totals}
use Rattle.zp_share.specs.Commands.{zone_at}
use Rattle.zp_share.specs.Gathering.{totals_of, owns_at}
use Rattle.zp_office.specs.declared.reply.CommandReply.{CommandReply}
use Rattle.zp_share.specs.Crews.{CrewState}
use Rattle.zp_office.specs.Offices.{OfficeState, crew_in, desk_of, in_order, opened_office, turns, workers_in}
use Rattle.zp_replay.specs.Replies.{line_feed, info_of, reply_text}

abbrev pub level_word : Level → List ℕ
level_word High = codes "high"
level_word Low = codes "low"
level_word Min = codes "min"
level_word Short = codes "short"

-- what is counted, and how many pages
abbrev pub counted : List ℕ → ℕ → List ℕ
counted what n = what ++ decimal n

abbrev pub total_line : List ℕ → ℕ → Totals → Level → List ℕ
total_line name pages t l =
    codes "total " ++ (name
    ++ (counted (codes " pages ") pages
    ++ (counted (codes " free ") t.free
    ++ (counted (codes " posted ") t.posted
    ++ (counted (codes " cached ") t.cached
    ++ (counted (codes " lent ") t.lent
    ++ (codes " level " ++ (level_word l ++ line_feed ∷ []))))))))

-- the total line of zone i: where its pages are, with what the shares have of it
abbrev pub total_of : CrewState → ℕ → List ℕ
total_of c i =
    let z = (zone_at c.zones i).plain in
    total_line (zone_at c.zones i).name (pages_of z) (totals_of z (owns_at c.shares i)) (level_of z)

-- one for each zone
abbrev pub total_lines : CrewState → List ℕ
total_lines c = flat_map (total_of c) (range_with_len 0 (length c.zones))

-- what the output says of a reply, where there is one
abbrev pub text_of : List NamedZone → ℕ → Option CommandReply → List ℕ
text_of zones worker None = []
text_of zones worker (Some q) = reply_text zones worker q

-- the text of worker w's reply at this place among its replies
abbrev pub reply_at : OfficeState → ℕ → ℕ → List ℕ
reply_at o w place = text_of o.zones w (slice_get (desk_of o w).replies place)

-- the text of the reply to the command of turn i: its worker has as many replies before it as it had turns
abbrev pub turn_text : OfficeState → List ℕ → ℕ → List ℕ
turn_text o ws i = let w = slice_index_or ws i 0 in reply_at o w (turns w (take i ws))

-- the replies to the commands of these turns, in order
abbrev pub replies_text : OfficeState → List ℕ → List ℕ
replies_text o ws = flat_map (turn_text o ws) (range_with_len 0 (length ws))

-- what is written of an office that has carried out the commands of these turns: the replies, the total lines and the info lines
abbrev pub report : OfficeState → List ℕ → List ℕ
report o ws = replies_text o ws ++ (total_lines (crew_in o) ++ flat_map info_of o.zones)

-- all that a good trace writes, where its commands are carried out one after another
unfoldable pub output : Trace → List ℕ
output t = let ws = workers_in t.commands in report (in_order (opened_office t) ws) ws

-- all that a bad trace writes
abbrev pub bad_line : ℕ → List ℕ
bad_line n = codes "bad line " ++ (decimal n ++ line_feed ∷ [])
