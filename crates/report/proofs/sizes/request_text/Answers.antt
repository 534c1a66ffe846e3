use Rattle.std.proofs.Common.{◌≡◌, List, ℕ, length, ap, ◌∙◌, subst, inl, inr, string_bytes, arith}
use Rattle.netlist.specs.Holds.{channels}
use Rattle.rating.proofs.Sizes.{sizing_fits}
use Rattle.report.specs.Files.{sizes_of}
use Rattle.report.specs.Sizes.{RequestText}
use Rattle.report.proofs.Asked.{caps_are, found_sized, size_refused, sized_text}
use Rattle.report.proofs.Printed.{check_told}
use Rattle.report.proofs.sizes.request_text.Goals as goal

pub returns-in_err-checked : goal.returns-in_err-checked
returns-in_err-checked c =
    let file = c.args.file.now in
    check_told (RequestText c.args.request file.netlist (sizes_of file)) file.netlist _ _ c.in_err-checked.field-0.0 (λ text h. inr (inl h)) c.netlist.ensures c.in_err-checked.ensures
    c.from_residual.ensures.1

pub returns-in_err-added : goal.returns-in_err-added
returns-in_err-added c =
    let file = c.args.file.now in
    let r = c.args.request in
    let e = length c.sizing-before.result.now in
    let count : e ≡ channels file.netlist = ap length c.sizing-before.ensures ∙ (sizing_fits _ _ file.sized).0 in
    size_refused _ file.netlist r _ _ (sizes_of file) (c.in_ok-checked.ensures.0 ∙ c.netlist.ensures) (caps_are e _ r.cap count (omega arith)) (c.copy_from_slice.ensures.after ∙ c.sizing-before.ensures) _
    c.in_err-added.field-0.0 _ c.in_err-added.ensures c.from_residual-in_err-added.ensures.1

pub checked_text-requires : goal.checked_text-requires
checked_text-requires c = found_sized _ _ _ _ _ _ _ _ c.in_ok-added.ensures

pub returns : goal.returns
returns c =
    let file = c.args.file.now in
    let r = c.args.request in
    let e = length c.sizing-before.result.now in
    let count : e ≡ channels file.netlist = ap length c.sizing-before.ensures ∙ (sizing_fits _ _ file.sized).0 in
    subst (λ (s : List ℕ). RequestText r file.netlist s (string_bytes c.push_str.new.self)) c.sizing-before.ensures
    (sized_text _ file.netlist r _ _ c.sizing-before.result.now (c.in_ok-checked.ensures.0 ∙ c.netlist.ensures) (caps_are e _ r.cap count (omega arith)) c.copy_from_slice.ensures.after _ c.in_ok-added.added _ _ _ _ _
    c.in_ok-added.ensures c.in_ok-rating.ensures c.in_ok-text.ensures.ok c.in_ok-add_deepened.ensures c.as_str.ensures.value c.in_ok-push_str.ensures.bytes)
