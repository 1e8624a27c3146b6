use Rattle.rules_symbols.proofs.WhatFits.{kind_fits}
use Rattle.rules_symbols.proofs.fitting.what_fits_has_the_kind.Goals as goal

pub returns : goal.returns
returns c = kind_fits
