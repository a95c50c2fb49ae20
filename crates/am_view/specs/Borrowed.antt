-- What a look ahead in a slot stands for.
--     later_of f          what a lent row is to those in front of it in its slot
--     with_first f is     f and then is, or none where there is no f
--     coming a            what is ahead of a in its slot
use Rattle.std.specs.Prelude.{List, [], ◌∷◌, map, Option, Some, None}
use Rattle.am_types.specs.Views.{id_of, object_of, key_of, value_of}
use Rattle.am_view.specs.declared.ahead.LaterRef.{LaterRef}
use Rattle.am_view.specs.declared.ahead.Ahead.{Ahead}
use Rattle.am_view.specs.Steps.{Later, later, ahead}

abbrev pub later_of : LaterRef → Later
later_of f = record { id = id_of f.id; action = f.action; value = value_of f.value }

abbrev pub with_first : Option LaterRef → List Later → List Later
with_first None is = []
with_first (Some f) is = later_of f ∷ is

abbrev pub coming : Ahead → List Later
coming a = with_first a.first (map later (ahead (object_of a.obj) (key_of a.slot) a.rest))
