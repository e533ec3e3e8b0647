-- What a capture is told to be.
use Rattle.std.specs.Prelude.{ℕ, ◌≡◌, List, Option, None, Some}
use Rattle.std.specs.Io.KnownBytes.{Consumes, IsAtEnd}
use Rattle.zp_events.specs.Texts.{lines_of}
use Rattle.zp_kernel.specs.declared.event_counts.EventCounts.{EventCounts}
use Rattle.zp_kernel.specs.Counts.{none_counted}
use Rattle.zp_kernel.specs.Events.{PlainKernel}
use Rattle.zp_kernel.specs.Lines.{AreCounted, no_lines}
use Rattle.zp_kernel.specs.Runs.{IsCarriedOut}
use Rattle.zp_capture.specs.declared.opening.ZoneSettings.{ZoneSettings}
use Rattle.zp_capture.specs.declared.options.EventOptions.{EventOptions}
use Rattle.zp_capture.specs.declared.plan.ZonePlan.{ZonePlan}
use Rattle.zp_capture.specs.declared.summary.Summary.{Summary}
use Rattle.zp_capture.specs.Limits.{workers_of}
use Rattle.zp_capture.specs.MachineLines.{Told, IsNoted, nothing_told}
use Rattle.zp_capture.specs.Opening.{IsOpenedBy}
use Rattle.zp_capture.specs.Plans.{ArePlanned}

-- how zones are made, where so much is told of the machine
abbrev pub settings_of : EventOptions → Told → ZoneSettings
settings_of o t = record { largest = o.largest; workers = workers_of o.cpus t.cpus; lists = o.lists }

-- the zones that are named or told are opened, with all their pages free
pub record AreOpened (o : EventOptions) (t : Told) (k : PlainKernel) : Type 0 where
  pub plans : List ZonePlan
  pub planned : ArePlanned o.plans.items t.zones.zones plans
  pub opened : IsOpenedBy (settings_of o t) plans k

-- what was counted over zones that may not be opened
abbrev pub counts_of : Option PlainKernel → EventCounts
counts_of None = none_counted
counts_of (Some k) = k.state.counts

-- the summary is that of the text: its events are carried out over the zones that its lines before the first event, or the options, tell
pub record IsSummaryOf (o : EventOptions) (text : List ℕ) (s : Summary) : Type 0 where
  pub kernel : Option PlainKernel
  pub run : IsCarriedOut o.at_broken IsNoted (AreOpened o) nothing_told (lines_of text) None kernel
  pub counts : s.counts ≡ counts_of kernel
  pub lines : AreCounted no_lines (lines_of text) s.lines

-- some text was read off a reader, to its end, and this is its summary
pub record IsSummaryOfAll (o : EventOptions) (had : Option (List ℕ)) (s : Summary) : Type 0 where
  pub text : List ℕ
  pub left : Option (List ℕ)
  pub read : Consumes had left text
  pub end : IsAtEnd left
  pub summary : IsSummaryOf o text s
