-- Each return is one answer of the image rule: a rule that is broken, or a whole image.
use mathlib.Core.Path.{sym}
use native.Mathlib.Omega.{arith}
use Rattle.record.proofs.Checks.{empty, ragged, image_refused, image_accepted}
use Rattle.record.proofs.image.check_image.Goals as goal

pub returns-then-img-eq0 : goal.returns-then-img-eq0
returns-then-img-eq0 c = sym (image_refused (empty c.if-img-eq0.true))

pub returns-then-img-ne0 : goal.returns-then-img-ne0
returns-then-img-ne0 c = sym (image_refused (ragged c.if-img-ne0.true))

pub returns : goal.returns
returns c = sym (image_accepted (omega arith))
