use Rattle.wtf_spillfmt.proofs.Lists.{form_of_all}
use Rattle.wtf_imagefmt.proofs.writer.put_list.Goals as goal

pub returns : goal.returns
returns c =
    let wrote = c.in_ok-put_entries.ensures in
    record {
      text_is = wrote.text_is;
      form = form_of_all c.args.end c.args.list.now wrote.form.0 wrote.form.1 c.requires;
    }
