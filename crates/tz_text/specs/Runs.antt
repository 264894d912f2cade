-- The maximal runs of an image's bytes, ascending by address.
use Rattle.std.specs.Prelude.{◌==◌, Bool, nat_le, not, if◌then◌else◌, List, [], ◌∷◌, ◌++◌, length, filter}
use Rattle.tz_model.specs.Image.{SegmentValue, end_of}

abbrev pub has_bytes : SegmentValue → Bool
has_bytes s = not (length s.bytes == 0)

-- the segments that have bytes
abbrev pub filled : List SegmentValue → List SegmentValue
filled segments = filter has_bytes segments

-- a segment among others that ascend by their first addresses: before the first that doesn't begin below it
abbrev pub placed : SegmentValue → List SegmentValue → List SegmentValue
placed s [] = s ∷ []
placed s (q ∷ more) = if nat_le s.base q.base then s ∷ q ∷ more else q ∷ placed s more

-- segments in the order of their first addresses
abbrev pub ascending : List SegmentValue → List SegmentValue
ascending [] = []
ascending (s ∷ more) = placed s (ascending more)

-- a run and the segments behind it, as runs: a segment that begins where the run ends goes on with it
unfoldable pub joined_from : SegmentValue → List SegmentValue → List SegmentValue
joined_from run [] = run ∷ []
joined_from run (s ∷ more) =
    if end_of run == s.base then joined_from (record { base = run.base; bytes = run.bytes ++ s.bytes }) more else run ∷ joined_from s more

abbrev pub joined : List SegmentValue → List SegmentValue
joined [] = []
joined (s ∷ more) = joined_from s more

-- The runs of segments of which no two share a byte, each as a segment. They ascend by address, none is empty,
-- and none ends where another begins.
abbrev pub runs_of : List SegmentValue → List SegmentValue
runs_of segments = joined (ascending (filled segments))
