use Rattle.std.proofs.Common.{◌≡◌, ℕ, List, length, vec_items, string_bytes, sym, ap, ◌∙◌, ap₂, subst, inl, inr, arith}
use Rattle.netlist.specs.Holds.{channels, modules}
use Rattle.report.specs.Files.{sizes_of}
use Rattle.report.proofs.Asked.{caps_are}
use Rattle.report.proofs.Printed.{check_told}
use Rattle.trace_text.specs.Lines.{asked_for}
use Rattle.trace_text.specs.Traces.{TraceText}
use Rattle.trace_text.proofs.Tracing.{asked_long, found_of, refuses_of, take_front, traced, trial_refused}
use Rattle.trace_text.proofs.traces.netlist_text.Goals as goal

pub returns-in_err-checked : goal.returns-in_err-checked
returns-in_err-checked c =
    let file = c.args.file.now in
    check_told (TraceText c.args.request c.args.commands.now file.netlist (sizes_of file)) file.netlist _ _ c.in_err-checked.field-0.0 (λ text h. inr (inl h)) c.netlist-netlist.ensures c.in_err-checked.ensures
    c.from_residual.ensures.1

pub returns-in_err-added : goal.returns-in_err-added
returns-in_err-added c =
    let file = c.args.file.now in
    let r = c.args.request in
    let few : length c.channels-channels.result.now ≡ channels file.netlist = ap length c.channels-channels.ensures ∙ sym c.netlist-netlist.result.now.channels.ok.0 ∙ ap channels c.netlist-netlist.ensures in
    let all = caps_are (length c.channels-channels.result.now) _ r.cap few (omega arith) in
    let own = c.copy_from_slice.ensures.after ∙ c.sizing-before.ensures in
    trial_refused _ file.netlist r _ _ (sizes_of file) (c.in_ok-checked.ensures.0 ∙ c.netlist-netlist.ensures) all own c.args.commands.now _ c.in_err-added.field-0.0 _
    (refuses_of _ _ _ _ _ _ _ _ _ _ _ _ _ _ _ c.trial-added.result.0 c.trial-added.ensures c.in_err-added.field-0.0 c.in_err-added.was).answer c.from_residual-in_err-added.ensures.1

pub add_exchanges-requires : goal.add_exchanges-requires
add_exchanges-requires c =
    let long = ap length c.in_ok-exchanges.ensures ∙ asked_long c.args.commands.now (length c.modules-modules.result.now) (length c.channels-channels.result.now) in
    let back : c.in_ok-exchanges.exchanges.len ≡ length c.trial-added.new.exchanges = omega (arith, c.trial-added.auto.exchanges, c.as_mut_slice.ensures.len) in
    let len : length c.as_slice.result.now ≡ length (vec_items c.in_ok-exchanges.exchanges) = ap length (c.as_slice.ensures.value ∙ take_front c.in_ok-exchanges.exchanges.len c.trial-added.new.exchanges _ back) ∙ c.trial-added.auto.exchanges ∙ ap length c.as_mut_slice.ensures.value in
    omega (arith, long, len)

pub returns : goal.returns
returns c =
    let file = c.args.file.now in
    let r = c.args.request in
    let n = c.netlist-netlist.result.now in
    let here = c.netlist-netlist.ensures in
    let few : length c.channels-channels.result.now ≡ channels file.netlist = ap length c.channels-channels.ensures ∙ sym n.channels.ok.0 ∙ ap channels here in
    let many : length c.modules-modules.result.now ≡ modules file.netlist = ap length c.modules-modules.ensures ∙ sym n.modules.ok.0 ∙ ap modules here in
    let all = caps_are (length c.channels-channels.result.now) _ r.cap few (omega arith) in
    let back : c.in_ok-exchanges.exchanges.len ≡ length c.trial-added.new.exchanges = omega (arith, c.trial-added.auto.exchanges, c.as_mut_slice.ensures.len) in
    subst (λ (s : List ℕ). TraceText r c.args.commands.now file.netlist s (string_bytes c.add_exchanges.new.text)) c.sizing-before.ensures
    (traced _ file.netlist r _ _ c.sizing-before.result.now (c.in_ok-checked.ensures.0 ∙ here) all c.copy_from_slice.ensures.after c.args.commands.now _ few c.in_ok-added.added _ _ c.trial-added.result.1
    c.as_mut_slice.result.now c.trial-added.new.exchanges _ c.trial-added.new.table _ _ _ _ c.new.ensures
    (found_of _ _ _ _ _ _ _ _ _ _ _ _ _ _ _ c.trial-added.result.0 c.trial-added.ensures c.in_ok-added.added c.in_ok-added.was)
    (c.as_mut_slice.ensures.value ∙ c.in_ok-exchanges.ensures ∙ ap₂ (asked_for c.args.commands.now) many few) (c.modules-modules.ensures ∙ ap (λ x. vec_items x.modules) here)
    (c.as_slice.ensures.value ∙ take_front c.in_ok-exchanges.exchanges.len c.trial-added.new.exchanges _ back) c.in_ok-text.ensures.ok c.in_ok-add_deepened.ensures c.in_ok-add_exchanges.ensures)
