use Rattle.std.proofs.Common.{subst}
use Rattle.std.specs.Result.{OnOk, OnErr}
use Rattle.zp_info.proofs.InfoLines.{info_line-same}
use Rattle.zp_streams.specs.Streams.{IsWritten, IsBegun}
use Rattle.zp_text.proofs.info.write_info.Goals as goal

pub returns-clause-ok : goal.returns-clause-ok
returns-clause-ok g c =
    subst (λ l. OnOk c.write_counts.result (IsWritten (g.W.Writer.contents c.args.writer.now) (g.W.Writer.contents c.write_counts.new.writer) l)) (info_line-same _ _ _ _ _ _ c.name.ensures.name c.largest.ensures c.counts.ensures.counts) c.write_counts.ensures.ok

pub returns-clause-err : goal.returns-clause-err
returns-clause-err g c =
    subst (λ l. OnErr c.write_counts.result (IsBegun (g.W.Writer.contents c.args.writer.now) (g.W.Writer.contents c.write_counts.new.writer) l)) (info_line-same _ _ _ _ _ _ c.name.ensures.name c.largest.ensures c.counts.ensures.counts) c.write_counts.ensures.err
