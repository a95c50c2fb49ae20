use Rattle.std.proofs.Common.{Option, None, map, vec_items, sym, ap, subst, ◌∙◌, IsPermutation}
use Rattle.std.proofs.lemmas.Result.{IfOk-weaker}
use Rattle.am_types.specs.declared.Hash.{Hash}
use Rattle.am_types.specs.declared.Change.{Change}
use Rattle.am_store.specs.Listed.{IsListed}
use Rattle.am_store.proofs.Inversion.{ordered}
use Rattle.am_store.proofs.Listing.{all_standing}
use Rattle.am_store.proofs.rebuilding.listed.Goals as goal

abbrev nothing_at : Hash × Change → Option (Hash × Change)
nothing_at e = None

pub put_all-requires : goal.put_all-requires
put_all-requires c =
    let C = c.requires.0 in
    let is = c.requires.1 in
    record {
      set = C;
      listed = record {
        graph = c.requires.2;
        distinct = (c.valid_sets_keep_rules.ensures C is.valid).hashes;
        same = subst (IsPermutation C) (sym (c.in_ok-entries.ensures C is)) (ordered C);
      };
      empty = c.in_ok-places.ensures ∙ ap (map nothing_at) c.as_slice.ensures.value;
    }

pub returns : goal.returns
returns c =
    let es = vec_items c.in_ok-entries.entries in
    IfOk-weaker c.taken.result _ _
    (λ entries e C is of.
    let listed : IsListed C c.args.graph.now es = record {
      graph = of;
      distinct = (c.valid_sets_keep_rules.ensures C is.valid).hashes;
      same = subst (IsPermutation C) (sym (c.in_ok-entries.ensures C is)) (ordered C);
    } in
    all_standing C c.args.graph.now es listed c.put_all.new.places.items (c.put_all.ensures C listed) (vec_items entries) e)
    c.taken.ensures
