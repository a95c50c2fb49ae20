use Rattle.std.proofs.Common.{◌≡◌, ◌++◌, length, map, option_map, pos, ap, ◌∙◌, subst, arith}
use Rattle.std.specs.Result.{OnOk}
use Rattle.am_leb.specs.Leb.{leb}
use Rattle.am_runs.specs.Canonical.{canonical_bytes}
use Rattle.am_delta.specs.Deltas.{canonical_delta_bytes}
use Rattle.am_delta.proofs.Sums.{length-sums}
use Rattle.am_delta.proofs.Listing.{listed_bytes}
use Rattle.am_delta.proofs.list.DeltaList.push_to.Goals as goal

pub push_list-requires : goal.push_list-requires
push_list-requires c = omega (arith, ap length c.as_slice.ensures.value, length-sums (pos 0) c.self.inside.differences.items, ap length c.self.view_is, c.requires)

pub returns : goal.returns
returns c =
    let bytes : canonical_bytes (map (option_map leb) c.as_slice.result.now) ≡ canonical_delta_bytes c.args.self.now =
    ap (λ l. canonical_bytes (map (option_map leb) l)) c.as_slice.ensures.value ∙ listed_bytes c.self.inside.differences.items ∙ ap canonical_delta_bytes c.self.view_is in
    subst (λ b. OnOk c.push_list.result (c.push_list.new.out.items ≡ c.args.out.now.items ++ b)) bytes c.push_list.ensures
