-- What the code's answer of a fit test says. Assumes nothing.
use Rattle.rules.specs.Rules as rules
use Rattle.pool_shelf.specs.declared.Fit.{Fit}
use Rattle.pool_shelf.specs.declared.Fit.TheVariants.{Short, Plain, Splits}

abbrev pub meant : Fit → rules.Fit
meant Short = rules.Short
meant Plain = rules.Plain
meant Splits = rules.Splits
