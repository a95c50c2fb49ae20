-- Predecessors that are lent.
--     ids_of i        the ids that i lends
--     preds_of p      those that p lends
use Rattle.std.specs.Prelude.{List, [], ◌∷◌, map}
use Rattle.am_types.specs.declared.OpId.{OpId}
use Rattle.am_types.specs.Views.{id_of}
use Rattle.am_rebuild.specs.declared.lent_preds.Ids.{Ids}
use Rattle.am_rebuild.specs.declared.lent_preds.Ids.TheVariants.{None, One, Many}
use Rattle.am_rebuild.specs.declared.lent_preds.LentPreds.TheInside.{Inside}

abbrev pub ids_of : Ids → List OpId
ids_of None = []
ids_of (One id) = id_of id ∷ []
ids_of (Many ids) = map id_of ids.items

abbrev pub preds_of : Inside → List OpId
preds_of p = ids_of p.ids
