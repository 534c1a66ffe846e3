-- The words of what a call says, as `done`, `3`, `item 2` or `empty`. Assumes nothing.
use Rattle.std.specs.Prelude.{ℕ, List, ◌++◌, Some, None, Option, codes, decimal}
use Rattle.play.specs.declared.exchange.Reply.{Reply}
use Rattle.play.specs.declared.exchange.Reply.TheVariants.{Done, Number, Item}

-- behind the word of an item stands what the item prints, if that is known
abbrev pub item_words : Option (List ℕ) → Option (List ℕ)
item_words None = None
item_words (Some words) = Some (codes "item " ++ words)

abbrev pub reply_words : {T : Type 0} → (T → Option (List ℕ)) → Reply T → Option (List ℕ)
reply_words words Done = Some (codes "done")
reply_words words (Number n) = Some (decimal n)
reply_words words (Item (Some x)) = item_words (words x)
reply_words words (Item None) = Some (codes "empty")
