-- The head of the answer to a message.
use Rattle.std.specs.Prelude.{◌≡◌, Bool, true, false}
use Rattle.rules.specs.Message.{Message}
use Rattle.rules.specs.Identity.{kind_of, answer_type, is_release}
use Rattle.print.specs.declared.message.Head.{Head}

pub record HeadFor (v : Message) (has : Bool) (h : Head) : Type 0 where
  pub kind : h.kind ≡ answer_type (kind_of v.kind)
  pub number : h.number ≡ v.number
  pub server : h.server ≡ true
  pub asks : h.asks ≡ false
  pub says : h.says ≡ is_release (kind_of v.kind)
  pub status : h.status ≡ 0
  pub pd : h.pd ≡ has
