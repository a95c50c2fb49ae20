use Rattle.std.proofs.Common.{◌≡◌, ◌≤◌, ap, ◌∙◌, subst}
use Rattle.serde_json.specs.Data.{depth}
use Rattle.serde_json.specs.Written.{compact_text}
use Rattle.am_types.specs.declared.ObjId.TheVariants.{Root}
use Rattle.am_json.specs.Shown.{json_data}
use Rattle.am_json.specs.Stretches.{spread}
use Rattle.am_json.proofs.Floats.{no_float}
use Rattle.am_json.proofs.Streamed.{text_of_value}
use Rattle.am_json.proofs.written.written.Goals as goal

pub returns-in-Ok-clause-text : goal.returns-in-Ok-clause-text
returns-in-Ok-clause-text c =
    let d = json_data c.new.result.0 c.new.result.1 in
    let shows : json_data c.new.result.0 c.new.result.1 ≡ json_data c.args.form (spread c.args.entries.now) =
    λ i. json_data (c.new.ensures.form i) (c.new.ensures.entries i) in
    let events = c.in-Ok.ensures.events in
    let none = no_float c.new.result.0 c.new.result.1 128 Root 0 in
    c.from.ensures ∙ (text_of_value d events.0 c.in-Ok.text.items events.1.0 events.2 none ∙ ap compact_text shows)

pub returns-in-Ok-clause-fits : goal.returns-in-Ok-clause-fits
returns-in-Ok-clause-fits c =
    let shows : json_data c.new.result.0 c.new.result.1 ≡ json_data c.args.form (spread c.args.entries.now) =
    λ i. json_data (c.new.ensures.form i) (c.new.ensures.entries i) in
    subst (λ d. depth d ≤ 127) shows c.in-Ok.ensures.events.1.1
