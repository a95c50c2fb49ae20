-- Spots that are lent.
--     spot_in s     what a lent spot stands for
use Rattle.am_types.specs.Views.{id_of, key_of, object_of}
use Rattle.am_merge.specs.Walk.{Spot}
use Rattle.am_merge.specs.declared.spot.SpotRef.{SpotRef}

abbrev pub spot_in : SpotRef → Spot
spot_in s = record { obj = object_of s.obj; insert = s.insert; key = key_of s.key; id = id_of s.id }
