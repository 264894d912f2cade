use Rattle.std.proofs.Common.{◌≡◌, ◌+◌, ◌≤◌, length}
use Rattle.tz_asm.specs.Layouts.{IsLayout}
use Rattle.tz_asm.specs.Listing.{listed_from, listed_with, listing_view}
use Rattle.tz_asm.specs.Places.{places_in}
use Rattle.tz_syntax.specs.Lines.{lines_of}
use Rattle.tz_asm.proofs.listing.list_with.Given as goal

abbrev pub invariant-loop-rest : goal.invariant-loop-rest
invariant-loop-rest l = record {
  read : listed_with l.source (places_in l.places) ≡ listed_from l.line (places_in l.places) l.layout (listing_view l.listing) (lines_of l.rest);
  within : IsLayout l.layout;
  counted : l.line + length l.rest ≤ length l.source + 1;
}

abbrev pub decreases-loop-rest : goal.decreases-loop-rest
decreases-loop-rest l = length l.rest
