-- What the check says that hands on the diff itself.
use Rattle.std.specs.Prelude.{Result}
use Rattle.paper.specs.Answer.{Said}
use Rattle.paper.specs.Diff.{Head}
use Rattle.record.specs.declared.records.Checked.{Checked}
use Rattle.record.specs.declared.refusal.Refusal.{Refusal}
use Rattle.record.specs.Refusals.{said}
use Rattle.record.specs.Heads.{head}

abbrev pub said_whole : Result Checked Refusal → Said Head
said_whole = said (λ c. head c.h)
