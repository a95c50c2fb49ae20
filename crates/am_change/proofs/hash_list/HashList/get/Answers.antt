use Rattle.std.proofs.Common.{rules, arith, ◌≡◌, ◌*◌, ◌<◌, Some, length, take, drop, slice_get, sym, ap, ◌∙◌}
use Rattle.std.proofs.lemmas.Option.{slice_get_past}
use Rattle.am_change.specs.Building.{hash_with}
use Rattle.am_change.proofs.FrontLaws.{length-hashes_in, hash_there}
use Rattle.am_change.proofs.hash_list.HashList.get.Goals as goal

pub returns-then-i-self : goal.returns-then-i-self
returns-then-i-self c =
    let r = c.self.inside in
    let many : length c.args.self.now ≡ r.count = ap length (sym c.self.view_is) ∙ length-hashes_in r.count r.bytes.now in
    let past = c.if-i-self.true in
    sym (slice_get_past c.args.self.now c.args.i (omega (arith, many, past)))

pub returns : goal.returns
returns c =
    let r = c.self.inside in
    let i = c.args.i in
    let within : i < r.count = search rules in
    let place : i * 32 ≡ 32 * i = omega arith in
    let first = c.split_at-2.ensures.front ∙ ap (take 32) (c.split_at.ensures.back ∙ ap (λ k. drop k r.bytes.now) place) in
    ap Some (c.hash_in.ensures ∙ ap hash_with first) ∙ sym (hash_there r.count i r.bytes.now within) ∙ ap (λ hashes. slice_get hashes i) c.self.view_is
