-- Change rows field by field, as a cursor reads them.
--     meta_from fields              the row with these fields
--     metas_from authors seqs ..    the rows with these fields
--     meta_of r                     what a lent row stands for
use Rattle.std.specs.Prelude.{ℕ, ℤ, List, map}
use Rattle.std.specs.List.{zip}
use Rattle.am_types.specs.declared.Meta.{Meta}
use Rattle.am_doccols.specs.declared.meta.MetaRef.{MetaRef}

abbrev pub Fields : Type 0
Fields = List ℕ × (ℕ × (ℕ × (ℤ × (List ℕ × (List ℕ × List ℕ)))))

abbrev pub meta_from : Fields → Meta
meta_from f = record {
  actor = f.0;
  seq = f.1.0;
  max = f.1.1.0;
  time = f.1.1.1.0;
  message = f.1.1.1.1.0;
  deps = f.1.1.1.1.1.0;
  extra = f.1.1.1.1.1.1;
}

abbrev pub metas_from : List (List ℕ) → List ℕ → List ℕ → List ℤ → List (List ℕ) → List (List ℕ) → List (List ℕ) → List Meta
metas_from authors seqs maxes times messages deps extras =
    map meta_from (zip authors (zip seqs (zip maxes (zip times (zip messages (zip deps extras))))))

abbrev pub meta_of : MetaRef → Meta
meta_of r = record {
  actor = r.actor.now;
  seq = r.seq;
  max = r.max;
  time = r.time;
  message = r.message.now;
  deps = r.deps;
  extra = r.extra.now;
}
