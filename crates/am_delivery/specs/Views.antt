-- What is pending, by hash.
use Rattle.std.specs.Prelude.{Bool, List, [], option_map, unwrap_or, vec_items, Vec}
use Rattle.std.specs.BTreeSet.{contains}
use Rattle.std.specs.Map.{count_at}
use Rattle.std.specs.BTreeMap as ordered
use Rattle.std.specs.BTreeMap.{BTreeMap}
use Rattle.std.specs.HashMap as hashed
use Rattle.std.specs.Global.{Global}
use Rattle.am_types.specs.contracts.hash.HashPartialEq.TheImpl as equality
use Rattle.am_types.specs.declared.Hash.{Hash}
use Rattle.am_types.specs.Order.{hash_cmp}
use Rattle.am_delivery.specs.Tracking.{Tracker}
use Rattle.am_delivery.specs.declared.pending.Pending.{Pending}

-- whether two hashes are equal, as a table asks
abbrev pub is_equal : Hash → Hash → Bool
is_equal = equality.eq-value.it

-- the list at a hash, empty where there is none
abbrev pub listed : BTreeMap Hash (Vec Hash Global) → Hash → List Hash
listed m h = unwrap_or (option_map vec_items (ordered.get hash_cmp m h)) []

abbrev pub tracker : Pending → Tracker
tracker p = record {
  missing = count_at (hashed.get is_equal p.missing);
  waiting_for = listed p.waiting_for;
  ready = p.ready.keys;
}

abbrev pub is_ready : Pending → Hash → Bool
is_ready p h = contains hash_cmp p.ready h
