use Rattle.std.proofs.Common.{◌≡◌, ◌<◌, ◌^◌, ◌++◌, List, length, sym, subst}
use Rattle.std.specs.List.{AllByRecursion}
use Rattle.am_types.specs.declared.Hash.{Hash}
use Rattle.am_change.specs.Contents.{hashes_bytes}
use Rattle.am_change.specs.Fronts.{Has32}
use Rattle.am_change.proofs.FrontLaws.{length-hashes_in, sized-hashes_in}
use Rattle.am_change.proofs.hash_list.HashList.read.Goals as goal

pub returns-clause-some : goal.returns-clause-some
returns-clause-some c =
    let r = c.in_ok-count in
    let some = r.ensures.some in
    let P : List Hash → Type 0 = λ l. (c.args.bytes.now ≡ hashes_bytes l ++ r.rest.now) × AllByRecursion Has32 l × (length l < 2 ^ 64) in
    subst P (sym c.over.ensures) (some.0, sized-hashes_in r.count r.hashes.now some.1, subst (λ n. n < 2 ^ 64) (sym (length-hashes_in r.count r.hashes.now)) some.2)
