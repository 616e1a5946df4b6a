-- `word::signed` meets its contract. Assumes nothing.
use Rattle.word.proofs.SignedLaws.{signed_is}
use Rattle.word.proofs.signed.Goals as goal

pub returns : goal.returns
returns c = signed_is c.args.w c.cast_signed.ensures c.ranges.w.fits
