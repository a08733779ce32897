-- `questions::has_bad_site` meets its contract. Assumes nothing.
use Rattle.questions.proofs.Asking.{site-asked, site-free}
use mathlib.Core.Path.{◌∙◌}
use Rattle.questions.proofs.has_bad_site.Goals as goal

pub returns-in-V13 : goal.returns-in-V13
returns-in-V13 c = c.site_fault.ensures ∙ site-asked _ _ c.in-V13.is

pub returns-in-V14 : goal.returns-in-V14
returns-in-V14 c = site-free _ _ c.in-V14.is
