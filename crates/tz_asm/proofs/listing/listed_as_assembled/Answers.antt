use Rattle.tz_asm.proofs.Listings.{refused_alike}
use Rattle.tz_asm.proofs.listing.listed_as_assembled.Goals as goal

pub returns : goal.returns
returns c = refused_alike
