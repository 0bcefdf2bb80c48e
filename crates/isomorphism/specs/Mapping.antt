-- What a mapping is.
--
--   places_of m   the place that it has for each blank node
use Rattle.std.specs.Prelude.{take}
use Rattle.theory.specs.Row.{Row}
use Rattle.isomorphism.specs.declared.mapping.Mapping.{Mapping}

abbrev pub places_of : Mapping → Row
places_of m = take m.blanks m.places
