use Rattle.tz_asm.proofs.Listings as lemmas
use Rattle.tz_asm.proofs.listing.places_ascend.Goals as goal

pub returns : goal.returns
returns c = lemmas.places_ascend
