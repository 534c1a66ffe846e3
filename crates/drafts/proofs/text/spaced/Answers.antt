use Rattle.std.proofs.Common.{◌≡◌, ◌∷◌, ◌++◌, refl, string_bytes, arith}
use Rattle.drafts.proofs.Words.{words_more}
use Rattle.drafts.proofs.text.spaced.Goals as goal

pub loop-word-preserved : goal.loop-word-preserved
loop-word-preserved g c f h =
    let word = c.word-item.result in
    let more = words_more (λ x. 32 ∷ f x) c.args.words.now c.loop-word.word-index word (omega arith) c.word-item.is in
    let e = h word in
    let wrote : string_bytes c.write.new.self ≡ string_bytes c.loop-word.text ++ 32 ∷ f word = rw e at c.in_ok-write.ensures.bytes in
    rw (wrote, c.loop-word.invariant f h, more) refl
