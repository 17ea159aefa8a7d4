-- Each turn puts one record's content at its block, so what the records left would make of the image stays the same; after the last one it is the image.
use Rattle.record.specs.Heads.{head}
use Rattle.volume.proofs.Writing.{Writing}
use Rattle.volume.proofs.write.write_records.Given as goal

abbrev pub invariant-loop-j : goal.invariant-loop-j
invariant-loop-j l = Writing l.diff.d.now (head l.diff.h) l.i l.end l.initial.img l.img l.j
